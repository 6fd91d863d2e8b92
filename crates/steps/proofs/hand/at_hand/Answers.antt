-- None, another one, or that one.
use Rattle.std.proofs.Common.{◌≡◌, ℕ, Bool, true, false, eqb, take, drop, Some, None, Option, MatchOption, sym, ap, ◌∙◌, rules, arith}
use borrow.Author.Tests.{tests}
use Rattle.std.specs.Bool.{then_some}
use Rattle.std.proofs.lemmas.Bool.{eqb-true, eqb-false}
use Rattle.wire.specs.Meaning.{duty_of}
use Rattle.wire.specs.declared.values.Duty.{Duty}
use Rattle.stored.specs.Stored.{Stored}
use Rattle.store.specs.Store.{duty_found}
use Rattle.keeper.specs.Step.{hand}
use Rattle.steps.specs.Queue.{for_slot}
use Rattle.steps.proofs.Busy.{idle, busy}
use Rattle.steps.proofs.Signing.{hand_none, hand_empty, hand_other, hand_that}
use Rattle.steps.proofs.hand.at_hand.Goals as goal

module _ (k : ℕ) (t : Stored) (one : t.at_hand ≡ 1) where
  by_slot : (x : Duty) (r : Option Duty) (b : Bool) → duty_found (Some x) ≡ take 1 (drop 0 t.active) → r ≡ then_some b x → b ≡ eqb x.slot k → duty_found r ≡ for_slot k (hand t)
  unfolding duty_of
  by_slot x r true e is same = ap duty_found is ∙ hand_that k t one (duty_of x) e (eqb-true x.slot k (sym same))
  by_slot x r false e is same = ap duty_found is ∙ hand_other k t one (duty_of x) e (eqb-false x.slot k (sym same))

  filtered : (o r : Option Duty) (P : Duty → Bool → Type 0) → duty_found o ≡ take 1 (drop 0 t.active) → MatchOption o (r ≡ None) (λ x. (b : Bool) × P x b × (r ≡ then_some b x)) → ((x : Duty) (b : Bool) → P x b → b ≡ eqb x.slot k) → duty_found r ≡ for_slot k (hand t)
  filtered None r P e m is = ap duty_found m ∙ hand_empty k t one e
  filtered (Some x) r P e m is = by_slot x r m.0 e m.2 (is x m.0 m.1)

pub returns-then-not-is_busy : goal.returns-then-not-is_busy
returns-then-not-is_busy c t h ready = hand_none c.args.slot t (idle _ t.at_hand (c.is_busy.ensures t h) c.if-not-is_busy.true)

pub returns : goal.returns
returns c t h ready =
    let some = busy _ t.at_hand (c.is_busy.ensures t h) c.if-not-is_busy.false in
    filtered c.args.slot t (omega (arith, some, ready.fits.at_hand)) c.at.result c.filter.result _ (c.at.ensures t h) c.filter.ensures (λ x b k. search (rules, tests))
