-- What is signed, and when the validator would be punished for two of them (Ethereum: slashable attestations).
-- Assumes nothing: these are definitions.
use Rattle.std.specs.Prelude.{ℕ, zero, suc, ◌+◌, ◌-◌, ◌*◌, ◌/◌, Bool, true, false, not, ◌&&◌, ◌||◌, List, [], ◌∷◌, ◌==◌, nat_le, nat_lt}

-- one of two values, by a test
unfoldable pub pick : {A : Type 0} → Bool → A → A → A
pick true a b = a
pick false a b = b

-- attestation data: slot, committee, block, and the source and target checkpoints, an epoch and a root each; a root is only a number that is the same or not
pub record Data : Type 0 where
  pub slot : ℕ
  pub committee : ℕ
  pub block : ℕ
  pub source : ℕ
  pub source_root : ℕ
  pub target : ℕ
  pub target_root : ℕ

-- equal in every field
abbrev pub same : Data → Data → Bool
same a b =
    ((a.slot == b.slot && a.committee == b.committee) && (a.block == b.block && a.source == b.source))
    && ((a.source_root == b.source_root && a.target == b.target) && a.target_root == b.target_root)

-- slashable, by the rule of the chain: two that differ with one target epoch (a double vote), or the first around the second (a surround vote)
abbrev pub punished : Data → Data → Bool
punished a b = (not (same a b) && a.target == b.target) || (nat_lt a.source b.source && nat_lt b.target a.target)

-- an entry of the past (Ethereum: the slashing database): the source and target epochs of what was signed or seen decided
pub record Past : Type 0 where
  pub from : ℕ
  pub to : ℕ

abbrev pub past_of : Data → Past
past_of d = record { from = d.source; to = d.target }

-- a pair that would be punished, taken a little wider: any two with one target, even if they are the same
abbrev pub clash : Past → Past → Bool
clash a b = a.to == b.to || (nat_lt a.from b.from && nat_lt b.to a.to)

-- whether an entry clashes with any of a past, in either order
unfoldable pub clashes : List Past → Past → Bool
clashes [] p = false
clashes (x ∷ xs) p = (clash x p || clash p x) || clashes xs p

-- the least target, and the least source, of an entry and a list
unfoldable pub least_to : Past → List Past → ℕ
least_to p [] = p.to
least_to p (x ∷ xs) = let m : ℕ = least_to p xs in pick (nat_lt x.to m) x.to m

unfoldable pub least_from : Past → List Past → ℕ
least_from p [] = p.from
least_from p (x ∷ xs) = let m : ℕ = least_from p xs in pick (nat_lt x.from m) x.from m

-- whether data could be punished with what is kept: at or below the least target, below the least source, or clashing; nothing is unsafe for an empty past
unfoldable pub unsafe : List Past → Data → Bool
unsafe [] d = false
unsafe (x ∷ xs) d = (nat_le d.target (least_to x xs) || nat_lt d.source (least_from x xs)) || clashes (x ∷ xs) (past_of d)

-- a duty (Ethereum: an attestation duty): a slot, a committee, a seat in it
pub record Duty : Type 0 where
  pub slot : ℕ
  pub committee : ℕ
  pub seat : ℕ

-- whether data is valid for a duty: its slot and committee, not unsafe for the past, and its source before its target
abbrev pub valid : List Past → Data → Duty → Bool
valid ps d y = (d.slot == y.slot && d.committee == y.committee) && (not (unsafe ps d) && nat_lt d.source d.target)

-- one entry more: kept by targets, the largest first, each target once; of two with one target the one that was there stays
unfoldable pub into : Past → List Past → List Past
into p [] = p ∷ []
into p (x ∷ xs) = pick (p.to == x.to) (x ∷ xs) (pick (nat_lt x.to p.to) (p ∷ (x ∷ xs)) (x ∷ into p xs))

-- the first n of a list
unfoldable pub first_of : {A : Type 0} → ℕ → List A → List A
first_of zero xs = []
first_of (suc n) [] = []
first_of (suc n) (x ∷ xs) = x ∷ first_of n xs

-- one entry more, of which the n with the largest targets stay
abbrev pub keep : ℕ → Past → List Past → List Past
keep n p ps = first_of n (into p ps)

-- of n clients fewer than a third may be bad (Ethereum: Byzantine, or the adversary); a quorum is two thirds of them, rounded up
abbrev pub bad_at_most : ℕ → ℕ
bad_at_most n = (n - 1) / 3

abbrev pub quorum : ℕ → ℕ
quorum n = (2 * n + 2) / 3
