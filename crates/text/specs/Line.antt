-- What a line of deeds becomes. Assumes nothing: this is a definition.
use Rattle.std.specs.Prelude.{ℕ, List, ◌++◌, codes, string_bytes}
use Rattle.text.specs.Text.{listed}
use Rattle.text.specs.declared.answers.Line.{Line}

-- the text of a line, if these texts are all that is still told
abbrev pub line_with : Line → List (List ℕ) → List ℕ
line_with l ts = string_bytes l.text ++ listed l.lead.now (codes "; ") ts
