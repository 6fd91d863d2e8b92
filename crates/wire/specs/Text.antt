-- What roots, data, duties, shares and entries of the past say as text, as the codes of their characters. Assumes nothing: these are definitions.
use Rattle.std.specs.Prelude.{ℕ, ◌+◌, Bool, cond, ◌&&◌, List, ◌++◌, map, codes, decimal, ◌==◌}
use Rattle.std.specs.Int.Digits.{digits_of}
use Rattle.protocol.specs.Data.{Data, Duty, Past}
use Rattle.protocol.specs.Client.{Share}

-- a root in decimal, which has more digits than the numbers of the code: the same digits, `0` for 0
unfoldable pub root_text : ℕ → List ℕ
root_text n = cond (n == 0) (codes "0") (map (λ d. 48 + d) (digits_of 10 n))

-- a committee and the roots of the checkpoints, left out where all three are 0
unfoldable pub plain : Data → Bool
plain d = d.committee == 0 && (d.source_root == 0 && d.target_root == 0)

unfoldable pub data_head : Data → List ℕ
data_head d = decimal d.slot ++ (codes " " ++ (root_text d.block ++ (codes " " ++ (decimal d.source ++ (codes " " ++ decimal d.target)))))

unfoldable pub data_tail : Data → List ℕ
data_tail d = decimal d.committee ++ (codes " " ++ (root_text d.source_root ++ (codes " " ++ root_text d.target_root)))

-- data: slot, block, source and target, and then committee, source root and target root
unfoldable pub data_text : Data → List ℕ
data_text d = cond (plain d) (data_head d) (data_head d ++ (codes " " ++ data_tail d))

-- a duty, without its committee where that is 0
unfoldable pub duty_text : Duty → List ℕ
duty_text y =
    cond (y.committee == 0)
    (decimal y.slot ++ (codes " seat " ++ decimal y.seat))
    (decimal y.slot ++ (codes " seat " ++ (decimal y.seat ++ (codes " committee " ++ decimal y.committee))))

-- a share: who, the seat and the data
unfoldable pub share_text : Share → List ℕ
share_text s = decimal s.who ++ (codes " seat " ++ (decimal s.seat ++ (codes ": " ++ data_text s.what)))

-- an entry of the past: its source and its target
unfoldable pub entry_text : Past → List ℕ
entry_text p = decimal p.from ++ (codes " " ++ decimal p.to)
