-- What is read from a client's memory and written there, by the lists that it holds. Assumes nothing: these are definitions.
use Rattle.std.specs.Prelude.{ℕ, Bool, List, [], ◌∷◌, Some, None, Option}
use Rattle.protocol.specs.Data as defined
use Rattle.protocol.specs.Client as client
use Rattle.wire.specs.Meaning.{data_of, duty_of, share_of, entry_of}
use Rattle.wire.specs.declared.values.Data.{Data}
use Rattle.wire.specs.declared.values.Duty.{Duty}
use Rattle.wire.specs.declared.values.Share.{Share}
use Rattle.wire.specs.declared.values.Entry.{Entry}
use Rattle.rows.specs.Rows.{kept}
use Rattle.stored.specs.Stored.{Stored, with_active, with_ahead, with_own}

-- what may be there, as a list of none or one
abbrev pub duty_found : Option Duty → List defined.Duty
duty_found None = []
duty_found (Some y) = duty_of y ∷ []

abbrev pub data_found : Option Data → List defined.Data
data_found None = []
data_found (Some d) = data_of d ∷ []

abbrev pub share_found : Option Share → List client.Share
share_found None = []
share_found (Some s) = share_of s ∷ []

abbrev pub entry_found : Option Entry → List defined.Past
entry_found None = []
entry_found (Some e) = entry_of e ∷ []

-- of what is being decided, what is ahead, or the own shares, just what is for slots that pass
abbrev pub only_active : (ℕ → Bool) → Stored → Stored
only_active test t = with_active (kept (λ y. test y.slot) t.active) t

abbrev pub only_ahead : (ℕ → Bool) → Stored → Stored
only_ahead test t = with_ahead (kept (λ d. test d.slot) t.ahead) t

abbrev pub only_own : (ℕ → Bool) → Stored → Stored
only_own test t = with_own (kept (λ s. test s.what.slot) t.own) t
