-- What the limits, and their errors, say as text, as the codes of its characters. Assumes nothing: these are definitions.
use Rattle.std.specs.Prelude.{List, ℕ, ◌++◌, codes, decimal}
use Rattle.protocol.specs.Client.{Limits}
use Rattle.protocol.specs.declared.sizes.LimitsError.{LimitsError}
use Rattle.protocol.specs.declared.sizes.LimitsError.TheVariants.{Clients, Me, Kept, Waiting}

-- the first line of the programs
unfoldable pub limits_text : Limits → List ℕ
limits_text l =
    codes "clients "
    ++ (decimal l.clients ++ (codes " me " ++ (decimal l.me ++ (codes " kept " ++ (decimal l.kept ++ (codes " waiting " ++ decimal l.waiting))))))

-- what is wanted of a limit that is out of range
abbrev pub limits_error_text : LimitsError → List ℕ
limits_error_text Clients = codes "expected 1 to 64 clients"
limits_error_text Me = codes "expected `me` below `clients`"
limits_error_text Kept = codes "expected 1 to 4096 kept"
limits_error_text Waiting = codes "expected 1 to 64 waiting"
