-- The laws of the bytes of slots, data, duties and shares: each is a coding (Coding.antt), with its size, and with the test that says which values its bytes can carry.
use Rattle.std.specs.Prelude.{◌≡◌, ℕ, ◌<◌, true, List, ◌++◌, take, drop, slice_index, refl}
use Rattle.std.proofs.Common.{arith, drop-drop, Fits}
use Rattle.std.specs.Int.{w8}
use Rattle.std.proofs.ByRecursion.{All-from_get_or}
use Rattle.std.proofs.lemmas.Bool.Decides.{nat_tests}
use Rattle.protocol.specs.Data.{Data, Duty}
use Rattle.protocol.specs.Client.{Share, duty, share}
use Rattle.protocol.specs.Promise.{eight, carried, readable}
use Rattle.wire.specs.Bytes.{AllBytes, le_bytes, le_value, data_bytes, duty_bytes, share_bytes, data_from, duty_from, share_from}
use Rattle.wire.specs.Coding.{Coding}
use Rattle.wire.specs.CodingLemmas.{numbers, both, as_record}

-- what a slice of bytes holds, as an answer has it: `c.typed.bytes`
pub typed_bytes : (bs : List ℕ) → ((i : ℕ) → Fits w8 (slice_index bs i)) → AllBytes bs
typed_bytes bs typed = All-from_get_or (λ b. b < 256) bs 0 (λ i h. (typed i).fits)

-- numbers of eight bytes
pub eight_coding : Coding ℕ 8 (le_bytes 8) (λ bs. le_value (take 8 bs)) (λ n. eight n ≡ true)
eight_coding =
    as_record (numbers 8) (λ n. n) (λ n. n) (le_bytes 8) (λ bs. le_value (take 8 bs)) (λ n. eight n ≡ true) (λ n. refl) (λ n. refl) (λ n. refl) (λ bs. refl)
    (λ n h. grind (arith, nat_tests))
    (λ n h. grind (arith, nat_tests))

pub duty_coding : Coding Duty 24 duty_bytes duty_from (λ y. readable (duty y) ≡ true)
unfolding duty_bytes duty_from readable
duty_coding =
    as_record (both (numbers 8) (both (numbers 8) (numbers 8)))
    (λ y. (y.slot, (y.committee, y.seat)))
    (λ p. record { slot = p.0; committee = p.1.0; seat = p.1.1 })
    duty_bytes duty_from (λ y. readable (duty y) ≡ true)
    (λ y. refl)
    (λ p. refl)
    (λ y. refl)
    (λ bs. simp drop-drop)
    (λ y h. grind (arith, nat_tests))
    (λ p h. grind (arith, nat_tests))

pub data_coding : Coding Data 128 data_bytes data_from (λ d. carried d ≡ true)
unfolding data_bytes data_from carried
data_coding =
    as_record (both (numbers 8) (both (numbers 8) (both (numbers 32) (both (numbers 8) (both (numbers 32) (both (numbers 8) (numbers 32)))))))
    (λ d. (d.slot, (d.committee, (d.block, (d.source, (d.source_root, (d.target, d.target_root)))))))
    (λ p.
    record {
      slot = p.0;
      committee = p.1.0;
      block = p.1.1.0;
      source = p.1.1.1.0;
      source_root = p.1.1.1.1.0;
      target = p.1.1.1.1.1.0;
      target_root = p.1.1.1.1.1.1;
    })
    data_bytes data_from (λ d. carried d ≡ true)
    (λ d. refl)
    (λ p. refl)
    (λ d. refl)
    (λ bs. rw (drop-drop 8 8 bs, drop-drop 32 16 bs, drop-drop 8 48 bs, drop-drop 32 56 bs, drop-drop 8 88 bs))
    (λ d h. grind (arith, nat_tests))
    (λ p h. grind (arith, nat_tests))

-- a slot, and the data decided for it
pub decided_coding : Coding (ℕ × Data) 136 (λ p. le_bytes 8 p.0 ++ data_bytes p.1) (λ bs. (le_value (take 8 bs), data_from (drop 8 bs))) (λ p. (eight p.0 ≡ true) × (carried p.1 ≡ true))
decided_coding = both eight_coding data_coding

pub share_coding : Coding Share 137 share_bytes share_from (λ s. readable (share s) ≡ true)
unfolding share_bytes share_from readable
share_coding =
    as_record (both (numbers 1) (both data_coding (numbers 8)))
    (λ s. (s.who, (s.what, s.seat)))
    (λ p. record { who = p.0; what = p.1.0; seat = p.1.1 })
    share_bytes share_from (λ s. readable (share s) ≡ true)
    (λ s. refl)
    (λ p. refl)
    (λ s. refl)
    (λ bs. simp drop-drop)
    (λ s h. grind (arith, nat_tests))
    (λ p h. grind (arith, nat_tests))
