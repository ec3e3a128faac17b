-- State texts that are not well formed, and programs that do not parse.
use Rattle.std.specs.Prelude.{◌≡◌, refl, Bool, true, false, ◌&&◌, List, [], ◌∷◌, ◌++◌, map}
use Prim.Native.String.{String}
use Rattle.language.specs.Text.{Text, bytes, parts, present, ◌>>=◌, given, ◌≟◌}
use Rattle.language.specs.Valid.{valid_store}
use Rattle.language.specs.Encode.{newline, state_text, padded}
use Rattle.language.specs.Decode.{read_lines, decode}
use Rattle.language.specs.Programs.{parse}
use Rattle.worked.specs.Sessions.{page}

pub record Judged : Type 0 where
  pub what : String
  pub gives : Bool
  pub expected : Bool

-- ---- state texts

-- as `decode` of the buffer, with the zero bytes left out to spare the time
abbrev pub accepted : Text → Bool
accepted t = present (read_lines (parts newline t) >>= λ b. given (valid_store b.store && (state_text b.store ≟ t)))

abbrev pub well_formed : List String → Bool
well_formed ls = accepted (page ls)

-- lines after those of admin, anyone and the delegator
abbrev pub below : List String → Bool
below ls = well_formed (("O" ∷ "P\tadmin\tdesk\t2" ∷ "N\tanyone\t0" ∷ "D\tanyone" ∷ []) ++ ls)

abbrev pub state_texts : List Judged
state_texts =
    record { what = "a fresh server's"; gives = below []; expected = true }
    ∷ record { what = "a closed one"; gives = well_formed ("C" ∷ "P\tadmin\t\t0" ∷ "P\tanyone\tx\t7" ∷ "D\tadmin" ∷ []); expected = true }
    ∷ record { what = "a leading zero in the count"; gives = well_formed ("O" ∷ "P\tadmin\tdesk\t02" ∷ "N\tanyone\t0" ∷ "D\tanyone" ∷ []); expected = false }
    ∷ record { what = "the last count"; gives = well_formed ("O" ∷ "P\tadmin\tdesk\t4294967295" ∷ "N\tanyone\t0" ∷ "D\tanyone" ∷ []); expected = true }
    ∷ record { what = "a count above the last"; gives = well_formed ("O" ∷ "P\tadmin\tdesk\t4294967296" ∷ "N\tanyone\t0" ∷ "D\tanyone" ∷ []); expected = false }
    ∷ record { what = "anyone before admin"; gives = well_formed ("O" ∷ "N\tanyone\t0" ∷ "P\tadmin\tdesk\t2" ∷ "D\tanyone" ∷ []); expected = false }
    ∷ record { what = "admin without a password"; gives = well_formed ("O" ∷ "N\tadmin\t0" ∷ "N\tanyone\t0" ∷ "D\tanyone" ∷ []); expected = false }
    ∷ record { what = "another without a password"; gives = well_formed ("O" ∷ "P\tadmin\tdesk\t2" ∷ "N\tanyone\t0" ∷ "N\trosa\t0" ∷ "D\tanyone" ∷ []); expected = false }
    ∷ record { what = "the delegator above a principal"; gives = well_formed ("O" ∷ "P\tadmin\tdesk\t2" ∷ "N\tanyone\t0" ∷ "D\tanyone" ∷ "P\trosa\tr1\t0" ∷ []); expected = false }
    ∷ record { what = "no delegator"; gives = well_formed ("O" ∷ "P\tadmin\tdesk\t2" ∷ "N\tanyone\t0" ∷ []); expected = false }
    ∷ record { what = "an unknown delegator"; gives = well_formed ("O" ∷ "P\tadmin\tdesk\t2" ∷ "N\tanyone\t0" ∷ "D\trosa" ∷ []); expected = false }
    ∷ record { what = "an assertion above a variable"; gives = below ("V\tx\tS\t" ∷ "A\tx\tadmin\tr\tanyone" ∷ "V\ty\tS\t" ∷ []); expected = false }
    ∷ record { what = "an assertion"; gives = below ("V\tx\tS\t" ∷ "A\tx\tadmin\tr\tanyone" ∷ []); expected = true }
    ∷ record { what = "the same twice"; gives = below ("V\tx\tS\t" ∷ "A\tx\tadmin\tr\tanyone" ∷ "A\tx\tadmin\tr\tanyone" ∷ []); expected = false }
    ∷ record { what = "one on an unknown variable"; gives = below ("V\tx\tS\t" ∷ "A\ty\tadmin\tr\tanyone" ∷ []); expected = false }
    ∷ record { what = "one from an unknown principal"; gives = below ("V\tx\tS\t" ∷ "A\tx\trosa\tr\tanyone" ∷ []); expected = false }
    ∷ record { what = "one to an unknown principal"; gives = below ("V\tx\tS\t" ∷ "A\tx\tadmin\tr\trosa" ∷ []); expected = false }
    ∷ record { what = "one with no right"; gives = below ("V\tx\tS\t" ∷ "A\tx\tadmin\tx\tanyone" ∷ []); expected = false }
    ∷ record { what = "a record"; gives = below ("V\tx\tR" ∷ "F\ta\tb" ∷ []); expected = true }
    ∷ record { what = "an empty record"; gives = below ("V\tx\tR" ∷ []); expected = false }
    ∷ record { what = "an empty record in a list"; gives = below ("V\tx\tL" ∷ "R" ∷ "S\ta" ∷ []); expected = false }
    ∷ record { what = "a label twice"; gives = below ("V\tx\tR" ∷ "F\ta\tb" ∷ "F\ta\tc" ∷ []); expected = false }
    ∷ record { what = "a field without its record"; gives = below ("V\tx\tL" ∷ "F\ta\tb" ∷ []); expected = false }
    ∷ record { what = "a variable twice"; gives = below ("V\tx\tS\t" ∷ "V\tx\tS\t" ∷ []); expected = false }
    ∷ record { what = "a keyword as a name"; gives = below ("V\tset\tS\t" ∷ []); expected = false }
    ∷ record { what = "a keyword as a label"; gives = below ("V\tx\tR" ∷ "F\tlet\tb" ∷ []); expected = false }
    ∷ record { what = "a quote in a text"; gives = below ("V\tx\tS\ta\"b" ∷ []); expected = false }
    ∷ record { what = "an unknown line"; gives = below ("X\tx" ∷ []); expected = false }
    ∷ record { what = "a blank line"; gives = below ("" ∷ []); expected = false }
    ∷ record { what = "no last newline"; gives = accepted (bytes "O\nP\tadmin\tdesk\t2\nN\tanyone\t0\nD\tanyone"); expected = false }
    ∷ []

pub state_texts_right : map (λ c. c.gives) state_texts ≡ map (λ c. c.expected) state_texts
state_texts_right = refl

-- whole buffers: a text and zero bytes, and a text with another byte behind it
pub buffers_right : map (λ t. present (decode (padded t))) (page ("O" ∷ "P\tadmin\tdesk\t2" ∷ "N\tanyone\t0" ∷ "D\tanyone" ∷ [])
    ∷ (page ("O" ∷ "P\tadmin\tdesk\t2" ∷ "N\tanyone\t0" ∷ "D\tanyone" ∷ []) ++ (0 ∷ 1 ∷ [])) ∷ [])
    ≡ true ∷ false ∷ []
buffers_right = refl

-- ---- programs

abbrev pub parses : List String → Bool
parses ls = present (parse (page ls))

abbrev pub login : String
login = "as principal admin password \"desk\" do"

-- a program of one line between the login and the last
abbrev pub parses_line : String → Bool
parses_line l = parses (login ∷ l ∷ "return \"\"" ∷ "***" ∷ [])

abbrev pub programs : List Judged
programs =
    record { what = "the shortest"; gives = parses (login ∷ "exit" ∷ "***" ∷ []); expected = true }
    ∷ record { what = "no newline at its end"; gives = present (parse (page (login ∷ "exit" ∷ []) ++ bytes "***")); expected = true }
    ∷ record { what = "two newlines"; gives = parses (login ∷ "exit" ∷ "***" ∷ "" ∷ []); expected = false }
    ∷ record { what = "something after the end"; gives = parses (login ∷ "exit" ∷ "***" ∷ "exit" ∷ []); expected = false }
    ∷ record { what = "a space before the end"; gives = parses (login ∷ "exit" ∷ " ***" ∷ []); expected = false }
    ∷ record { what = "a space after it"; gives = parses (login ∷ "exit" ∷ "*** " ∷ []); expected = false }
    ∷ record { what = "a comment after it"; gives = parses (login ∷ "exit" ∷ "***//" ∷ []); expected = false }
    ∷ record { what = "no end"; gives = parses (login ∷ "exit" ∷ []); expected = false }
    ∷ record { what = "no last command"; gives = parses (login ∷ "set x = []" ∷ "***" ∷ []); expected = false }
    ∷ record { what = "a command after the last"; gives = parses (login ∷ "exit" ∷ "exit" ∷ "***" ∷ []); expected = false }
    ∷ record { what = "a blank line"; gives = parses_line ""; expected = false }
    ∷ record { what = "a line of spaces"; gives = parses_line "  "; expected = false }
    ∷ record { what = "a comment line"; gives = parses_line "// a;b:c.d?e-f!"; expected = true }
    ∷ record { what = "one not at column 1"; gives = parses_line " // a"; expected = false }
    ∷ record { what = "a comment of other bytes"; gives = parses_line "// a,b"; expected = false }
    ∷ record { what = "a comment above the first line"; gives = parses ("// a" ∷ login ∷ "exit" ∷ "***" ∷ []); expected = true }
    ∷ record { what = "comments at the ends of lines"; gives = parses ("as principal admin password \"desk\" do//a" ∷ "set x = []  // b" ∷ "exit // c" ∷ "***" ∷ []); expected = true }
    ∷ record { what = "spaces at a line's ends and between tokens"; gives = parses_line "  set  x={ a = y . b ,c=\"d\"}  "; expected = true }
    ∷ record { what = "no spaces where none are needed"; gives = parses ("as principal admin password\"desk\"do" ∷ "exit" ∷ "***" ∷ []); expected = true }
    ∷ record { what = "a space in the empty list"; gives = parses_line "set x = [ ]"; expected = false }
    ∷ record { what = "an empty record"; gives = parses_line "set x = {}"; expected = false }
    ∷ record { what = "a record in a record"; gives = parses_line "set x = {a={b=\"c\"}}"; expected = false }
    ∷ record { what = "a keyword as a name"; gives = parses_line "set let = []"; expected = false }
    ∷ record { what = "a keyword as a label"; gives = parses_line "set x = {read=\"a\"}"; expected = false }
    ∷ record { what = "admin and anyone as variables"; gives = parses_line "set admin = anyone"; expected = true }
    ∷ record { what = "a name that starts with a digit"; gives = parses_line "set 1x = []"; expected = false }
    ∷ record { what = "the longest token is taken"; gives = parses_line "setx = []"; expected = false }
    ∷ record { what = "every mark of a string"; gives = parses_line "set x = \"a_b,c;d.e?f!g-h 9\""; expected = true }
    ∷ record { what = "a mark that no string holds"; gives = parses_line "set x = \"a:b\""; expected = false }
    ∷ record { what = "a string that is not closed"; gives = parses_line "set x = \"a"; expected = false }
    ∷ record { what = "a tab"; gives = parses_line "set\tx = []"; expected = false }
    ∷ record { what = "every right, and all"; gives = parses (login ∷ "set delegation all a read -> b" ∷ "set delegation x a write -> b" ∷ "delete delegation x a append -> b" ∷ "delete delegation all a delegate -> b" ∷ "exit" ∷ "***" ∷ []); expected = true }
    ∷ []

pub programs_right : map (λ c. c.gives) programs ≡ map (λ c. c.expected) programs
programs_right = refl
