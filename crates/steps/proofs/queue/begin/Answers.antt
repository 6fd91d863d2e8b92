-- One call after another; what is driven out is freed first.
use Rattle.std.proofs.Common.{◌≡◌, ℕ, suc, ◌≤◌, List, [], ◌∷◌, drop, refl, ap, ◌∙◌, subst, arith}
use Rattle.std.specs.List.{AllByRecursion}
use Rattle.protocol.specs.Data.{Duty, first_of}
use Rattle.wire.specs.Meaning.{duty_of}
use Rattle.stored.specs.Stored.{Bank, Stored, with_at_hand, with_latest, with_queue, with_active, with_banks}
use Rattle.layout.specs.Memory.{Holds, TurnsIf}
use Rattle.keeper.specs.Step.{all_freed}
use Rattle.steps.specs.Orderly.{SlotFits}
use Rattle.steps.proofs.Beginning.{freed_out, one_freed, none_freed, fits_there}
use Rattle.steps.proofs.queue.begin.Goals as goal
use Rattle.steps.proofs.queue.begin.Goals.{in-Some, in_default}

pub returns : goal.returns
unfolding duty_of
returns c =
    let y : Duty = duty_of c.args.first.now in
    let gone : Stored → List Duty = λ t. drop t.sizes.waiting (y ∷ t.active) in
    let out : TurnsIf c.args.memory.now c.match-at.memory (λ t. AllByRecursion SlotFits t.active) (λ t. with_banks (all_freed t.sizes.clients (gone t) t.banks) t) =
    elim c.match-at.branch [
      | in-Some w ↦
          rw w.memory-is (record {
            layout = w.release.ensures.layout;
            lent = w.release.ensures.lent;
            holds =
                λ t h all.
                let n : ℕ = t.sizes.clients in
                let wait = ap (λ z. z.waiting) h.sized in
                let one : 1 ≤ t.sizes.waiting = h.well.sizes.some_wait in
                let last : Duty = duty_of w.in-Some.last in
                let found = w.in-Some.ensures t (c.view.ensures.shows t h) in
                let free = one_freed n last t.banks ∙ freed_out n t.sizes.waiting c.args.memory.now.layout.waiting y t.active (last ∷ []) t.banks wait one h.well.active found in
                subst (λ (bs : List Bank). Holds w.release.new.memory (with_banks bs t)) free (w.release.ensures.holds t h (fits_there _ last t.active found all));
          })
      | in_default w ↦
          rw w.memory-is (record {
            layout = refl;
            lent = refl;
            holds =
                λ t h all.
                let n : ℕ = t.sizes.clients in
                let wait = ap (λ z. z.waiting) h.sized in
                let one : 1 ≤ t.sizes.waiting = h.well.sizes.some_wait in
                let free = none_freed n t.banks ∙ freed_out n t.sizes.waiting c.args.memory.now.layout.waiting y t.active [] t.banks wait one h.well.active (w.in_default.ensures t (c.view.ensures.shows t h)) in
                subst (λ (bs : List Bank). Holds c.args.memory.now (with_banks bs t)) free h;
          })
    ] in
    let a = c.put.ensures in
    let b = c.put-2.ensures in
    let d = c.pop_waiting.ensures in
    let e = c.push_deciding.ensures in
    record {
      layout = e.layout ∙ d.layout ∙ b.layout ∙ a.layout ∙ out.layout;
      lent = e.lent ∙ d.lent ∙ b.lent ∙ a.lent ∙ out.lent;
      holds =
          λ t h ok.
          let form : ℕ → Stored =
          λ k. with_active (first_of t.sizes.waiting (y ∷ t.active)) (with_queue (drop 1 t.queue) (with_latest k (with_at_hand 1 (with_banks (all_freed t.sizes.clients (gone t) t.banks) t)))) in
          let next : c.saturating_add.result ≡ suc c.args.first.now.slot = omega (arith, c.saturating_add.ensures, ok.1) in
          subst (λ (k : ℕ). Holds c.push_deciding.new.memory (form k)) next (e.holds _ (d.holds _ (b.holds _ (a.holds _ (out.holds t h ok.0))) ok.2));
    }
