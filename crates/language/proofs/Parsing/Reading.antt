-- What the grammar reads is valid, and takes some room of the line.
use Prim.Native.Nat.{ℕ, zero, suc, ◌+◌, ◌≤◌, zero-le}
use native.Mathlib.Omega.{arith}
use mathlib.Core.Bool.{true, false, ◌&&◌, not}
use mathlib.Core.Option.{Option, none, some}
use mathlib.Core.List.{List, [], ◌∷◌}
use lib.ListN.{length}
use lib.Dec.{T, ltb, lt→ltb, lit≤}
use Rattle.language.specs.Text.{bytes, all}
use Rattle.language.specs.Tokens.{Token, sign, ident, text, wrong}
use Rattle.language.specs.Syntax.{Name, Right, read, write, append, delegate, Operand, name, dot, quoted, Binding, Function, Comparison, Term, single, nothing, fields, tolower, call, compare, Expr, term, let_in}
use Rattle.language.specs.Syntax.{Target, every, only, Command, create_principal, change_password, set, append_to, local, foreach, filtereach, set_delegation, delete_delegation, default_delegator, exit, return}
use Rattle.language.specs.Identifiers.{is_identifier, is_string}
use Rattle.language.specs.Grammar.{Reader, ◌>>=◌, any_operand, any_fields, function_of, ahead, any_function, comparison_of, any_comparison, any_call, any_term, any_lets, any_expression, any_right, any_target, set_form, any_command, any_ending, any_login, spent, whole}
use Rattle.language.proofs.Parsing.ValidPrograms.{valid_operand, valid_binding, valid_term, valid_expr, valid_target, valid_command, is_ending}
use Rattle.language.proofs.Logic.Tests.{both, and, and_three}
use Rattle.language.proofs.Logic.Outcomes.{Where}
use Rattle.language.proofs.Parsing.Lexing.{valid_token, is_word_token, room, room_after}
use Rattle.language.proofs.Parsing.Readers.{Reads, give_reads, choice_reads, bind_reads, Any, the_reads, name_reads, then_the, then_name, then_string}

-- ---- expressions

abbrev ValidOperand : Operand → Type 0
ValidOperand o = T (valid_operand o)

operand_reads : Reads ValidOperand (λ o. 1) false false 0 any_operand
operand_reads = choice_reads
    (then_name (λ x i. choice_reads (then_the (bytes ".") (then_name (λ y j. give_reads (dot x y) (and (is_identifier x) (is_identifier y) i j) (lit≤ tt)))) (give_reads (name x) i (lit≤ tt))))
    (then_string (λ t i. give_reads (quoted t) i (lit≤ tt)))

then_operand : {B : Type 0} {Q : B → Type 0} {least : B → ℕ} {credit : ℕ} {f : Operand → Reader B}
    → ((o : Operand) → ValidOperand o → Reads Q least false false (credit + 1) (f o)) → Reads Q least false false credit (any_operand >>= f)
then_operand h = bind_reads operand_reads h

abbrev ValidFields : List Binding → Type 0
ValidFields bs = T (valid_term (fields bs))

fields_reads : (n : ℕ) → Reads ValidFields (λ bs. 0) false false 0 (any_fields n)
fields_reads zero = record { reads = λ ts v. tt }
fields_reads (suc n) = go (fields_reads n)
  where
    one : (x : Name) (o : Operand) → T (is_identifier x) → ValidOperand o → (bs : List Binding) → T (all valid_binding bs) → ValidFields (record { label = x; operand = o } ∷ bs)
    one x o i j bs h =
        and (ltb 0 (suc (length bs))) (all valid_binding (record { label = x; operand = o } ∷ bs)) (lt→ltb 0 (suc (length bs)) (omega arith))
        (and (valid_binding (record { label = x; operand = o })) (all valid_binding bs) (and (is_identifier x) (valid_operand o) i j) h)

    go : Reads ValidFields (λ bs. 0) false false 0 (any_fields n) → Reads ValidFields (λ bs. 0) false false 0 (any_fields (suc n))
    go ih =
        then_name (λ x i. then_the (bytes "=") (then_operand (λ o j. choice_reads
        (then_the (bytes "}") (give_reads (record { label = x; operand = o } ∷ []) (one x o i j [] tt) zero-le))
        (then_the (bytes ",") (bind_reads ih (λ bs h. give_reads (record { label = x; operand = o } ∷ bs)
        (one x o i j bs (both (ltb 0 (length bs)) (all valid_binding bs) h).1) zero-le))))))

abbrev ValidTerm : Term → Type 0
ValidTerm t = T (valid_term t)

abbrev ValidExpr : Expr → Type 0
ValidExpr e = T (valid_expr e)

function_reads : Reads Any (λ f. 0) false false 0 any_function
function_reads = record { reads = go }
  where
    Read : List Token → Function × List Token → Type 0
    Read ts r = Any r.0 × T (all valid_token r.1) × (0 + room false r.1 ≤ room false ts + 0)

    go : (ts : List Token) → T (all valid_token ts) → Where (Read ts) (any_function ts)
    go [] v = tt
    go (sign u ∷ ts) v = found (function_of u)
      where
        found : (o : Option Function) → Where (Read (sign u ∷ ts)) (ahead o ts)
        found none = tt
        found (some f) = (tt, v, omega (arith, (room_after (is_word_token (sign u)) ts).0))
    go (ident u ∷ ts) v = tt
    go (text u ∷ ts) v = tt
    go (wrong ∷ ts) v = tt

comparison_reads : Reads Any (λ c. 0) false false 0 any_comparison
comparison_reads = record { reads = go }
  where
    Read : List Token → Comparison × List Token → Type 0
    Read ts r = Any r.0 × T (all valid_token r.1) × (0 + room false r.1 ≤ room false ts + 0)

    go : (ts : List Token) → T (all valid_token ts) → Where (Read ts) (any_comparison ts)
    go [] v = tt
    go (sign u ∷ ts) v = found (comparison_of u)
      where
        found : (o : Option Comparison) → Where (Read (sign u ∷ ts)) (ahead o ts)
        found none = tt
        found (some c) = (tt, v, omega (arith, (room_after (is_word_token (sign u)) ts).0))
    go (ident u ∷ ts) v = tt
    go (text u ∷ ts) v = tt
    go (wrong ∷ ts) v = tt

call_reads : Reads ValidTerm (λ e. 1) false false 0 any_call
call_reads =
    choice_reads (then_the (bytes "tolower") (then_the (bytes "(") (then_operand (λ o h. then_the (bytes ")") (give_reads (tolower o) h (lit≤ tt))))))
    (choice_reads (bind_reads function_reads (λ f u. then_the (bytes "(") (then_operand (λ o h. then_the (bytes ",") (then_operand (λ p k. then_the (bytes ")")
    (give_reads (call f o p) (and (valid_operand o) (valid_operand p) h k) (lit≤ tt))))))))
    (bind_reads comparison_reads (λ c u. then_the (bytes "(") (then_operand (λ o h. then_the (bytes ",") (then_operand (λ p k. then_the (bytes ")")
    (give_reads (compare c o p) (and (valid_operand o) (valid_operand p) h k) (lit≤ tt)))))))))

term_reads : Reads ValidTerm (λ e. 1) false false 0 any_term
term_reads =
    choice_reads (then_the (bytes "[]") (give_reads nothing tt (lit≤ tt)))
    (choice_reads (then_the (bytes "{") (bind_reads all_fields_lem (λ bs h. give_reads (fields bs) h (lit≤ tt))))
    (choice_reads call_reads
    (then_operand (λ o h. give_reads (single o) h (lit≤ tt)))))
  where
    all_fields_lem : Reads ValidFields (λ bs. 0) false false 0 (λ ts. any_fields (length ts) ts)
    all_fields_lem = record { reads = λ ts v. (fields_reads (length ts)).reads ts v }

lets_reads : (n : ℕ) → Reads ValidExpr (λ e. 1) false false 0 (any_lets n)
lets_reads zero = record { reads = λ ts v. tt }
lets_reads (suc n) = go (lets_reads n)
  where
    go : Reads ValidExpr (λ e. 1) false false 0 (any_lets n) → Reads ValidExpr (λ e. 1) false false 0 (any_lets (suc n))
    go ih =
        choice_reads (then_the (bytes "let") (then_name (λ x i. then_the (bytes "=") (bind_reads ih (λ e h. then_the (bytes "in") (bind_reads ih (λ f k.
        give_reads (let_in x e f) (and_three (is_identifier x) (valid_expr e) (valid_expr f) i h k) (lit≤ tt))))))))
        (bind_reads term_reads (λ t h. give_reads (term t) h (lit≤ tt)))

expression_reads : Reads ValidExpr (λ e. 1) false false 0 any_expression
expression_reads = record { reads = λ ts v. (lets_reads (length ts)).reads ts v }

-- ---- commands

-- the least room of a command's line
abbrev pub least_room : Command → ℕ
least_room (create_principal p t) = 18
least_room (change_password p t) = 17
least_room (set x e) = 7
least_room (append_to x e) = 14
least_room (local x e) = 8
least_room (foreach y x e) = 23
least_room (filtereach y x e) = 19
least_room (set_delegation t q r p) = 22
least_room (delete_delegation t q r p) = 25
least_room (default_delegator p) = 18
least_room exit = 4
least_room (return e) = 7

abbrev pub Inner : Command → Type 0
Inner c = T (valid_command c) × T (not (is_ending c))

abbrev pub Ending : Command → Type 0
Ending c = T (valid_command c) × T (is_ending c)

module _ {B : Type 0} {Q : B → Type 0} {least : B → ℕ} {credit : ℕ} where
  then_expression : {f : Expr → Reader B} → ((e : Expr) → ValidExpr e → Reads Q least false false (credit + 1) (f e)) → Reads Q least false false credit (any_expression >>= f)
  then_expression h = bind_reads expression_reads h

  then_right : {f : Right → Reader B} → ((r : Right) → Reads Q least false false (credit + 4) (f r)) → Reads Q least false false credit (any_right >>= f)
  then_right h = bind_reads right_reads (λ r u. h r)
    where
      right_reads : Reads Any (λ r. 4) false false 0 any_right
      right_reads =
          choice_reads (then_the (bytes "read") (give_reads read tt (lit≤ tt)))
          (choice_reads (then_the (bytes "write") (give_reads write tt (lit≤ tt)))
          (choice_reads (then_the (bytes "append") (give_reads append tt (lit≤ tt)))
          (then_the (bytes "delegate") (give_reads delegate tt (lit≤ tt)))))

  then_target : {f : Target → Reader B} → ((t : Target) → T (valid_target t) → Reads Q least false false (credit + 1) (f t)) → Reads Q least false false credit (any_target >>= f)
  then_target h = bind_reads target_reads h
    where
      target_reads : Reads (λ t. T (valid_target t)) (λ t. 1) false false 0 any_target
      target_reads = choice_reads (then_the (bytes "all") (give_reads every tt (lit≤ tt))) (then_name (λ x i. give_reads (only x) i (lit≤ tt)))

-- a space must part `set` from the name
set_reads : Reads Inner least_room false false 0 set_form
set_reads =
    bind_reads (the_reads (bytes "set") false true (λ t. tt)) (λ u p. bind_reads (name_reads true) (λ x i.
    then_the (bytes "=") (then_expression (λ e h. give_reads (set x e) (and (is_identifier x) (valid_expr e) i h, tt) (lit≤ tt)))))

pub command_reads : Reads Inner least_room false false 0 any_command
command_reads =
    choice_reads (then_the (bytes "create") (then_the (bytes "principal") (then_name (λ p i. then_string (λ t h.
    give_reads (create_principal p t) (and (is_identifier p) (is_string t) i h, tt) (lit≤ tt))))))
    (choice_reads (then_the (bytes "change") (then_the (bytes "password") (then_name (λ p i. then_string (λ t h.
    give_reads (change_password p t) (and (is_identifier p) (is_string t) i h, tt) (lit≤ tt))))))
    (choice_reads set_reads
    (choice_reads (then_the (bytes "append") (then_the (bytes "to") (then_name (λ x i. then_the (bytes "with") (then_expression (λ e h.
    give_reads (append_to x e) (and (is_identifier x) (valid_expr e) i h, tt) (lit≤ tt)))))))
    (choice_reads (then_the (bytes "local") (then_name (λ x i. then_the (bytes "=") (then_expression (λ e h.
    give_reads (local x e) (and (is_identifier x) (valid_expr e) i h, tt) (lit≤ tt))))))
    (choice_reads (then_the (bytes "foreach") (then_name (λ y j. then_the (bytes "in") (then_name (λ x i. then_the (bytes "replacewith") (then_expression (λ e h.
    give_reads (foreach y x e) (and_three (is_identifier y) (is_identifier x) (valid_expr e) j i h, tt) (lit≤ tt))))))))
    (choice_reads (then_the (bytes "filtereach") (then_name (λ y j. then_the (bytes "in") (then_name (λ x i. then_the (bytes "with") (then_expression (λ e h.
    give_reads (filtereach y x e) (and_three (is_identifier y) (is_identifier x) (valid_expr e) j i h, tt) (lit≤ tt))))))))
    (choice_reads (then_the (bytes "set") (then_the (bytes "delegation") (then_target (λ t k. then_name (λ q j. then_right (λ r. then_the (bytes "->") (then_name (λ p i.
    give_reads (set_delegation t q r p) (and_three (valid_target t) (is_identifier q) (is_identifier p) k j i, tt) (lit≤ tt)))))))))
    (choice_reads (then_the (bytes "delete") (then_the (bytes "delegation") (then_target (λ t k. then_name (λ q j. then_right (λ r. then_the (bytes "->") (then_name (λ p i.
    give_reads (delete_delegation t q r p) (and_three (valid_target t) (is_identifier q) (is_identifier p) k j i, tt) (lit≤ tt)))))))))
    (then_the (bytes "default") (then_the (bytes "delegator") (then_the (bytes "=") (then_name (λ p i.
    give_reads (default_delegator p) (i, tt) (lit≤ tt))))))))))))))

pub ending_reads : Reads Ending least_room false false 0 any_ending
ending_reads =
    choice_reads (then_the (bytes "exit") (give_reads exit (tt, tt) (lit≤ tt)))
    (then_the (bytes "return") (then_expression (λ e h. give_reads (return e) (h, tt) (lit≤ tt))))

pub login_reads : Reads (λ o. T (is_identifier o.sender && is_string o.password)) (λ o. 0) false false 0 any_login
login_reads =
    then_the (bytes "as") (then_the (bytes "principal") (then_name (λ p i. then_the (bytes "password") (then_string (λ t h. then_the (bytes "do")
    (give_reads (record { sender = p; password = t }) (and (is_identifier p) (is_string t) i h) zero-le))))))

-- ---- whole lines

pub whole_reads : {A : Type 0} {P : A → Type 0} {least : A → ℕ} {m : Reader A} → Reads P least false false 0 m → (ts : List Token) → T (all valid_token ts)
    → Where (λ a. P a × (least a ≤ room false ts)) (whole m ts)
whole_reads {A} {P} {least} {m} h ts v = go (m ts) (h.reads ts v)
  where
    go : (o : Option (A × List Token)) → Where (λ r. P r.0 × T (all valid_token r.1) × (least r.0 + room false r.1 ≤ room false ts + 0)) o
        → Where (λ a. P a × (least a ≤ room false ts)) (spent o)
    go none k = tt
    go (some (a, [])) k = (k.0, omega (arith, k.2))
    go (some (a, t ∷ us)) k = tt
