-- A status line from its word (document 01, "A run").
use Rattle.std.specs.Prelude.{◌++◌}
use Rattle.language.specs.Text.{Text, bytes}

-- `Output.status` of a word that is given by its bytes
abbrev pub status_line : Text → Text
status_line word = bytes "{\"status\":\"" ++ word ++ bytes "\"}\n"
