-- What is cut from the past is not missed when an entry is put in. Assumes nothing: these are definitions.
use Rattle.std.specs.Prelude.{◌≡◌, ℕ, List}
use Rattle.protocol.specs.Data.{Past, first_of, keep}

-- keeping n of what was kept and one more is keeping n of all and one more
abbrev pub CuttingIsHarmless : Type 0
CuttingIsHarmless = (n : ℕ) (p : Past) (ps : List Past) → keep n p (first_of n ps) ≡ keep n p ps
