-- The memory of a client in use. Assumes nothing: this is a definition.
use Rattle.std.specs.Prelude.{ℕ, List}
use Rattle.client_in_memory.specs.declared.session.Session.{Session}

abbrev pub session_memory : Session → List ℕ
session_memory s = s.memory.now
