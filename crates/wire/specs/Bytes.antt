-- What data, duties and shares are as bytes: numbers of eight bytes, roots of 32, clients of one, the low byte first. Assumes nothing: these are definitions.
use Rattle.std.specs.Prelude.{ℕ, zero, suc, ◌+◌, ◌*◌, ◌/◌, ◌%◌, ◌<◌, List, [], ◌∷◌, ◌++◌, take, drop}
use Rattle.protocol.specs.Data.{Data, Duty}
use Rattle.protocol.specs.Client.{Share}
use Rattle.std.specs.List.{AllByRecursion}

-- numbers that are bytes, each below 256
abbrev pub AllBytes : List ℕ → Type 0
AllBytes bs = AllByRecursion (λ b. b < 256) bs

-- a number as k bytes, the low byte first
unfoldable pub le_bytes : ℕ → ℕ → List ℕ
le_bytes zero n = []
le_bytes (suc k) n = n % 256 ∷ le_bytes k (n / 256)

-- the number that bytes stand for, the low byte first
unfoldable pub le_value : List ℕ → ℕ
le_value [] = 0
le_value (b ∷ bs) = b + 256 * le_value bs

-- k bytes from a place on
abbrev pub part : ℕ → ℕ → List ℕ → List ℕ
part at k bs = take k (drop at bs)

-- data, 128 bytes
unfoldable pub data_bytes : Data → List ℕ
data_bytes d =
    le_bytes 8 d.slot
    ++ (le_bytes 8 d.committee
    ++ (le_bytes 32 d.block
    ++ (le_bytes 8 d.source ++ (le_bytes 32 d.source_root ++ (le_bytes 8 d.target ++ le_bytes 32 d.target_root)))))

-- a duty, 24 bytes
unfoldable pub duty_bytes : Duty → List ℕ
duty_bytes y = le_bytes 8 y.slot ++ (le_bytes 8 y.committee ++ le_bytes 8 y.seat)

-- a share, 137 bytes
unfoldable pub share_bytes : Share → List ℕ
share_bytes s = le_bytes 1 s.who ++ (data_bytes s.what ++ le_bytes 8 s.seat)

-- what the front of some bytes stands for, as data, a duty and a share
unfoldable pub data_from : List ℕ → Data
data_from bs =
    record {
      slot = le_value (part 0 8 bs);
      committee = le_value (part 8 8 bs);
      block = le_value (part 16 32 bs);
      source = le_value (part 48 8 bs);
      source_root = le_value (part 56 32 bs);
      target = le_value (part 88 8 bs);
      target_root = le_value (part 96 32 bs);
    }

unfoldable pub duty_from : List ℕ → Duty
duty_from bs = record { slot = le_value (part 0 8 bs); committee = le_value (part 8 8 bs); seat = le_value (part 16 8 bs) }

unfoldable pub share_from : List ℕ → Share
share_from bs = record { who = le_value (part 0 1 bs); what = data_from (drop 1 bs); seat = le_value (part 129 8 bs) }
