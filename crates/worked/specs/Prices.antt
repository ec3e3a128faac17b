-- Request M-104, prices: the operations on texts, programs that call them from their bytes to the lines they print, and a state with older names.
use Rattle.std.specs.Prelude.{◌≡◌, refl, true, false, List, [], ◌∷◌, ◌++◌, map}
use Prim.Native.String.{String}
use Rattle.std.proofs.Math.Option.{Option, none, some}
use Rattle.language.specs.Text.{Text, bytes, parts, present, ◌>>=◌}
use Rattle.language.specs.Encode.{newline}
use Rattle.language.specs.Decode.{Below, read_lines}
use Rattle.language.specs.Syntax.{Operation, add, sub, times, per, read, delegate}
use Rattle.language.specs.State.{Store}
use Rattle.language.specs.Chains.{chain_length}
use Rattle.language.specs.Weight.{store_weight}
use Rattle.language.specs.Programs.{parse}
use Rattle.language.specs.Prices.{price, price_text, reckoned}
use Rattle.worked.specs.Sessions.{page, runs, new, admin_sends, rosa_sends, letters}
use Rattle.worked.specs.Texts.{well_formed}
use Rattle.worked.specs.Functions.{Sent, printed_from, expected_of, admin_writes}

-- ---- the operations

-- what an operation makes of two texts
abbrev pub sums : Operation → String → String → Option Text
sums o t u = do
  a ← price (bytes t)
  b ← price (bytes u)
  c ← reckoned o a b
  some (price_text c)

pub record Reckoned : Type 0 where
  pub what : String
  pub gives : Option Text
  pub expected : Option Text

abbrev pub reckonings : List Reckoned
reckonings =
    record { what = "the paper's value: a half goes away from zero"; gives = sums times "0.05" "0.50"; expected = some (bytes "0.03") }
    ∷ record { what = "a minus on one side"; gives = sums times "-0.05" "0.50"; expected = some (bytes "-0.03") }
    ∷ record { what = "on the other side"; gives = sums times "0.05" "-0.50"; expected = some (bytes "-0.03") }
    ∷ record { what = "on both"; gives = sums times "-0.05" "-0.50"; expected = some (bytes "0.03") }
    ∷ record { what = "the paper's value: no minus zero"; gives = sums times "-0.01" "0.10"; expected = some (bytes "0.00") }
    ∷ record { what = "half of a hundredth"; gives = sums times "0.05" "0.10"; expected = some (bytes "0.01") }
    ∷ record { what = "0.0049 goes down"; gives = sums times "0.07" "0.07"; expected = some (bytes "0.00") }
    ∷ record { what = "a third"; gives = sums per "1.00" "3.00"; expected = some (bytes "0.33") }
    ∷ record { what = "two thirds"; gives = sums per "2.00" "3.00"; expected = some (bytes "0.67") }
    ∷ record { what = "half a hundredth"; gives = sums per "0.01" "2.00"; expected = some (bytes "0.01") }
    ∷ record { what = "below zero"; gives = sums per "-0.01" "2.00"; expected = some (bytes "-0.01") }
    ∷ record { what = "by a divisor below zero"; gives = sums per "0.01" "-2.00"; expected = some (bytes "-0.01") }
    ∷ record { what = "rounds to zero: no minus"; gives = sums per "-0.01" "3.00"; expected = some (bytes "0.00") }
    ∷ record { what = "a zero divisor"; gives = sums per "1.00" "0.00"; expected = none }
    ∷ record { what = "a zero divisor of zero"; gives = sums per "0.00" "0.00"; expected = none }
    ∷ record { what = "zero by something"; gives = sums per "0.00" "-3.00"; expected = some (bytes "0.00") }
    ∷ record { what = "beyond"; gives = sums per "9999999.99" "0.01"; expected = none }
    ∷ record { what = "at the limit"; gives = sums per "9999999.99" "1.00"; expected = some (bytes "9999999.99") }
    ∷ record { what = "very small"; gives = sums per "0.01" "9999999.99"; expected = some (bytes "0.00") }
    ∷ record { what = "beyond by a hundredth"; gives = sums add "9999999.99" "0.01"; expected = none }
    ∷ record { what = "at the limit"; gives = sums add "9999999.99" "0.00"; expected = some (bytes "9999999.99") }
    ∷ record { what = "beyond the other way"; gives = sums sub "-9999999.99" "0.01"; expected = none }
    ∷ record { what = "zero is 0.00"; gives = sums add "-0.50" "0.50"; expected = some (bytes "0.00") }
    ∷ record { what = "below zero"; gives = sums sub "0.10" "0.30"; expected = some (bytes "-0.20") }
    ∷ record { what = "two digits after the point"; gives = sums add "0.05" "0.05"; expected = some (bytes "0.10") }
    ∷ record { what = "far beyond"; gives = sums times "9999999.99" "9999999.99"; expected = none }
    ∷ record { what = "at the lower limit"; gives = sums times "-9999999.99" "1.00"; expected = some (bytes "-9999999.99") }
    ∷ record { what = "rounded first, and then beyond"; gives = sums times "9090909.09" "1.10"; expected = none }
    ∷ []

pub reckonings_right : map (λ c. c.gives) reckonings ≡ map (λ c. c.expected) reckonings
reckonings_right = refl

-- ---- which texts are prices

pub prices_are : map (λ t. present (price (bytes t))) ("0.00" ∷ "-0.01" ∷ "9999999.99" ∷ "-9999999.99" ∷ "10.00" ∷ "-10.05" ∷ []) ≡ true ∷ true ∷ true ∷ true ∷ true ∷ true ∷ []
prices_are = refl

-- minus zero, needless zeros, another number of digits, another sign, bytes before or behind
abbrev pub no_prices : List String
no_prices = "-0.00" ∷ "00.50" ∷ "01.00" ∷ ".50" ∷ "0.5" ∷ "0.500" ∷ "12345678.00" ∷ "1,00" ∷ "1" ∷ "" ∷ "-" ∷ "--1.00" ∷ " 1.00" ∷ "1.00 " ∷ "-.50" ∷ "1.-5" ∷ "-00.01" ∷ []

pub no_prices_right : map (λ t. price (bytes t)) no_prices ≡ map (λ t. none) no_prices
no_prices_right = refl

-- ---- programs on a new server

abbrev pub calls : List Sent
calls =
    record {
      what = "a half goes away from zero";
      program = admin_sends ("return times(\"0.05\",\"0.50\")" ∷ []);
      prints = page ("{\"status\":\"RETURNING\",\"output\":\"0.03\"}" ∷ []);
    }
    ∷ record {
      what = "a zero divisor: FAILED";
      program = admin_sends ("return per(\"1.00\",\"0.00\")" ∷ []);
      prints = page ("{\"status\":\"FAILED\"}" ∷ []);
    }
    ∷ record {
      what = "no price: FAILED";
      program = admin_sends ("return add(\"-0.00\",\"0.00\")" ∷ []);
      prints = page ("{\"status\":\"FAILED\"}" ∷ []);
    }
    ∷ record {
      what = "beyond: FAILED";
      program = admin_sends ("return times(\"9090909.09\",\"1.10\")" ∷ []);
      prints = page ("{\"status\":\"FAILED\"}" ∷ []);
    }
    ∷ record {
      what = "only the whole word, by its case";
      program = admin_sends ("set adds = \"1\"" ∷ "set Per = \"2\"" ∷ "return {added=adds,b=Per}" ∷ []);
      prints = page ("{\"status\":\"SET\"}" ∷ "{\"status\":\"SET\"}" ∷ "{\"status\":\"RETURNING\",\"output\":{\"added\":\"1\",\"b\":\"2\"}}" ∷ []);
    }
    ∷ []

pub calls_right : printed_from new calls ≡ expected_of calls
calls_right = refl

-- an argument that is too heavy is no price: FAILED, and not FULL
pub heavy_is_no_price : (runs new (admin_writes ((bytes "return add(\"" ++ letters 8193 ++ bytes "\",\"0.00\")") ∷ []) ∷ [])).printed ≡ page ("{\"status\":\"FAILED\"}" ∷ [])
heavy_is_no_price = refl

-- ---- programs that do not parse

abbrev pub unparsed_calls : List Sent
unparsed_calls =
    record {
      what = "one argument";
      program = admin_sends ("return add(\"1.00\")" ∷ []);
      prints = page ("{\"status\":\"FAILED\"}" ∷ []);
    }
    ∷ record {
      what = "three";
      program = admin_sends ("return add(\"1.00\",\"1.00\",\"1.00\")" ∷ []);
      prints = page ("{\"status\":\"FAILED\"}" ∷ []);
    }
    ∷ record {
      what = "a call is no value";
      program = admin_sends ("return add(times(\"1.00\",\"1.00\"),\"1.00\")" ∷ []);
      prints = page ("{\"status\":\"FAILED\"}" ∷ []);
    }
    ∷ record {
      what = "`add` is a keyword now";
      program = admin_sends ("set add = \"1\"" ∷ "return \"ok\"" ∷ []);
      prints = page ("{\"status\":\"FAILED\"}" ∷ []);
    }
    ∷ record {
      what = "`sub` too";
      program = admin_sends ("set sub = \"1\"" ∷ "return \"ok\"" ∷ []);
      prints = page ("{\"status\":\"FAILED\"}" ∷ []);
    }
    ∷ record {
      what = "`times` too";
      program = admin_sends ("set times = \"1\"" ∷ "return \"ok\"" ∷ []);
      prints = page ("{\"status\":\"FAILED\"}" ∷ []);
    }
    ∷ record {
      what = "`per` too";
      program = admin_sends ("set per = \"1\"" ∷ "return \"ok\"" ∷ []);
      prints = page ("{\"status\":\"FAILED\"}" ∷ []);
    }
    ∷ record {
      what = "not as a label";
      program = admin_sends ("return {add=\"1\"}" ∷ []);
      prints = page ("{\"status\":\"FAILED\"}" ∷ []);
    }
    ∷ record {
      what = "not as a sender";
      program = page ("as principal times password \"x\" do" ∷ "return \"1\"" ∷ "***" ∷ []);
      prints = page ("{\"status\":\"FAILED\"}" ∷ []);
    }
    ∷ []

pub unparsed_calls_right : map (λ c. parse c.program) unparsed_calls ≡ map (λ c. none) unparsed_calls
unparsed_calls_right = refl

-- ---- with a bill

abbrev pub bill_program : Text
bill_program =
    admin_sends ("create principal rosa \"r1\""
    ∷ "set secret = \"9.99\""
    ∷ "set rate = \"12.50\""
    ∷ "set hours = \"3.00\""
    ∷ "set off = \"0.75\""
    ∷ "set base = \"20.00\""
    ∷ "set bill = {rate=\"12.50\",hours=\"2.25\",note=\"late\"}"
    ∷ "set bills = []"
    ∷ "append to bills with {rate=\"12.50\",hours=\"2.00\"}"
    ∷ "append to bills with {rate=\"9.99\",hours=\"0.50\"}"
    ∷ "set delegation rate admin read -> anyone"
    ∷ "set delegation hours admin read -> anyone"
    ∷ "return \"ok\"" ∷ [])

abbrev pub after_bill : Store
after_bill = (runs new (bill_program ∷ [])).state

pub bill_weighs : store_weight after_bill ≡ 190
bill_weighs = refl

abbrev pub bill_cases : List Sent
bill_cases =
    record {
      what = "fields";
      program = admin_sends ("return times(bill.rate,bill.hours)" ∷ []);
      prints = page ("{\"status\":\"RETURNING\",\"output\":\"28.13\"}" ∷ []);
    }
    ∷ record {
      what = "a field that is no price";
      program = admin_sends ("return times(bill.note,bill.hours)" ∷ []);
      prints = page ("{\"status\":\"FAILED\"}" ∷ []);
    }
    ∷ record {
      what = "a record";
      program = admin_sends ("return add(bill,rate)" ∷ []);
      prints = page ("{\"status\":\"FAILED\"}" ∷ []);
    }
    ∷ record {
      what = "a list";
      program = admin_sends ("return add(bills,rate)" ∷ []);
      prints = page ("{\"status\":\"FAILED\"}" ∷ []);
    }
    ∷ record {
      what = "DENIED before FAILED";
      program = rosa_sends ("return add(secret,nosuch)" ∷ []);
      prints = page ("{\"status\":\"DENIED\"}" ∷ []);
    }
    ∷ record {
      what = "DENIED before a string that is no price";
      program = rosa_sends ("return add(\"x\",secret)" ∷ []);
      prints = page ("{\"status\":\"DENIED\"}" ∷ []);
    }
    ∷ record {
      what = "DENIED before the zero divisor";
      program = rosa_sends ("return per(secret,\"0.00\")" ∷ []);
      prints = page ("{\"status\":\"DENIED\"}" ∷ []);
    }
    ∷ record {
      what = "in foreach";
      program = admin_sends ("foreach b in bills replacewith times(b.rate,b.hours)" ∷ "return bills" ∷ []);
      prints = page ("{\"status\":\"FOREACH\"}" ∷ "{\"status\":\"RETURNING\",\"output\":[\"25.00\",\"5.00\"]}" ∷ []);
    }
    ∷ record {
      what = "local and set";
      program = rosa_sends ("local t = times(rate,hours)" ∷ "set mine = sub(t,\"0.50\")" ∷ "return mine" ∷ []);
      prints = page ("{\"status\":\"LOCAL\"}" ∷ "{\"status\":\"SET\"}" ∷ "{\"status\":\"RETURNING\",\"output\":\"37.00\"}" ∷ []);
    }
    ∷ []

pub bill_right : printed_from after_bill bill_cases ≡ expected_of bill_cases
bill_right = refl

-- ---- a state that holds the new keywords as names

abbrev pub older_lines : List String
older_lines =
    "O" ∷ "P\tadmin\tdesk\t0" ∷ "N\tanyone\t0" ∷ "P\tper\tp1\t4" ∷ "P\trosa\tr1\t0" ∷ "D\tanyone" ∷ "V\tadd\tR" ∷ "F\ttimes\tten"
    ∷ "F\tb\ttwo" ∷ "V\tlist\tL" ∷ "R" ∷ "F\tsub\tx" ∷ "A\tadd\tadmin\tr\tper" ∷ "A\tadd\tadmin\td\trosa" ∷ []

pub older_well_formed : well_formed older_lines ≡ true
older_well_formed = refl

-- a keyword of document 01 is no name
pub split_not_well_formed :
    well_formed ("O" ∷ "P\tadmin\tdesk\t0" ∷ "N\tanyone\t0" ∷ "P\tper\tp1\t4" ∷ "P\trosa\tr1\t0" ∷ "D\tanyone" ∷ "V\tsplit\tR" ∷ "F\ttimes\tten"
    ∷ "F\tb\ttwo" ∷ "V\tlist\tL" ∷ "R" ∷ "F\tsub\tx" ∷ "A\tsplit\tadmin\tr\tper" ∷ "A\tsplit\tadmin\td\trosa" ∷ []) ≡ false
split_not_well_formed = refl

abbrev stored : Option Below → Store
stored none = new
stored (some b) = b.store

abbrev pub older : Store
older = stored (read_lines (parts newline (page older_lines)))

pub older_weighs : store_weight older ≡ 107
older_weighs = refl

-- the questions: per may read, rosa may pass on and not read
pub older_chains : chain_length older read (bytes "add") (bytes "per") ∷ chain_length older delegate (bytes "add") (bytes "rosa") ∷ chain_length older read (bytes "add") (bytes "rosa") ∷ []
    ≡ some 1 ∷ some 1 ∷ none ∷ []
older_chains = refl

abbrev pub older_cases : List Sent
older_cases =
    record {
      what = "the variable cannot be written";
      program = admin_sends ("return add" ∷ []);
      prints = page ("{\"status\":\"FAILED\"}" ∷ []);
    }
    ∷ record {
      what = "its label is printed";
      program = admin_sends ("return list" ∷ []);
      prints = page ("{\"status\":\"RETURNING\",\"output\":[{\"sub\":\"x\"}]}" ∷ []);
    }
    ∷ record {
      what = "no delegation of it by name";
      program = admin_sends ("set delegation add admin read -> rosa" ∷ "return \"ok\"" ∷ []);
      prints = page ("{\"status\":\"FAILED\"}" ∷ []);
    }
    ∷ record {
      what = "its principal cannot log in";
      program = page ("as principal per password \"p1\" do" ∷ "return \"in\"" ∷ "***" ∷ []);
      prints = page ("{\"status\":\"FAILED\"}" ∷ []);
    }
    ∷ record {
      what = "all reaches it";
      program = rosa_sends ("set delegation all rosa read -> anyone" ∷ "return \"ok\"" ∷ []);
      prints = page ("{\"status\":\"SET_DELEGATION\"}" ∷ "{\"status\":\"RETURNING\",\"output\":\"ok\"}" ∷ []);
    }
    ∷ record {
      what = "no new one of that name";
      program = admin_sends ("create principal add \"x\"" ∷ "return \"ok\"" ∷ []);
      prints = page ("{\"status\":\"FAILED\"}" ∷ []);
    }
    ∷ record {
      what = "its label cannot be written";
      program = admin_sends ("foreach e in list replacewith e.sub" ∷ "return list" ∷ []);
      prints = page ("{\"status\":\"FAILED\"}" ∷ []);
    }
    ∷ record {
      what = "the record is copied with its label";
      program = admin_sends ("append to list with list" ∷ "return list" ∷ []);
      prints = page ("{\"status\":\"APPEND\"}" ∷ "{\"status\":\"RETURNING\",\"output\":[{\"sub\":\"x\"},{\"sub\":\"x\"}]}" ∷ []);
    }
    ∷ []

-- rosa's delegation is entered
pub older_entered : (runs older (rosa_sends ("set delegation all rosa read -> anyone" ∷ "return \"ok\"" ∷ []) ∷ [])).state.assertions
    ≡ older.assertions ++ (record { variable = bytes "add"; from = bytes "rosa"; right = read; to = bytes "anyone" } ∷ [])
older_entered = refl

pub older_right : printed_from older older_cases ≡ expected_of older_cases
older_right = refl
