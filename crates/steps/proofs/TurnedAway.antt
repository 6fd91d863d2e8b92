-- Events that are turned away whatever the client holds: bytes that are none, and events that it can't do.
use Rattle.std.proofs.Common.{◌≡◌, ℕ, ◌-◌, ◌≤◌, Bool, List, [], ◌∷◌, length, take, drop, sym, refl, ap, ◌∙◌, arith}
use Rattle.std.proofs.lemmas.List.{take_all}
use Rattle.protocol.specs.Data.{pick, Data}
use Rattle.protocol.specs.Client.{Share, share, block, resend, garbled, event_number, good_fields}
use Rattle.protocol.specs.Promise.{thin}
use Rattle.wire.specs.Bytes.{share_from}
use Rattle.events.specs.Layout.{parse}
use Rattle.stored.specs.Stored.{Stored}
use Rattle.keeper.specs.Step.{refusal, refused_by}
use Rattle.steps.proofs.Parsing.{share_whole, empty_is_none}

pub garbled_refused : (can : ℕ → Bool) (t : Stored) (n : ℕ) → refusal can t (garbled n) ≡ 1
unfolding event_number good_fields refused_by pick
garbled_refused can t n = refl

pub block_refused : (t : Stored) (ds : List Data) → refusal thin t (block ds) ≡ 2
unfolding event_number pick
block_refused t ds = refl

pub resend_refused : (t : Stored) → refusal thin t resend ≡ 2
unfolding event_number pick
resend_refused t = refl

-- the bytes of a share behind its number, as they are lent
pub share_behind : (xs : List ℕ) (s : Share) → share s ≡ parse xs → (parse xs ≡ share (share_from (take (length xs - 1) (drop 1 xs)))) × (137 ≤ length (take (length xs - 1) (drop 1 xs))) × (1 ≤ length xs)
share_behind [] s e = absurd (empty_is_none s e)
share_behind (n ∷ bs) s e =
    let rest : take (length (n ∷ bs) - 1) bs ≡ bs = take_all (length (n ∷ bs) - 1) bs (omega arith) in
    let w = share_whole n bs s e in
    (sym e ∙ w.0 ∙ ap (λ v. share (share_from v)) (sym rest), omega (arith, w.1, ap length rest), omega arith)
