-- The reader of expressions, without the number that bounds how deep lets nest: any number of tokens or more gives the same.
-- Assumes nothing.
use mathlib.Core.Path.{◌≡◌, refl, sym, ap, ◌∙◌}
use mathlib.Core.List.{List, [], ◌∷◌}
use mathlib.Core.Option.{Option, none, some}
use Prim.Native.Nat.{ℕ, zero, suc, ◌+◌, ◌-◌}
use native.Mathlib.Omega.{arith}
use native.Mathlib.Nat.{add-zero, add-suc}
use lib.ListN.{length}
use Rattle.language.specs.Text.{Text, bytes, ◌or_else◌}
use Rattle.language.specs.Tokens.{Token, sign, ident, text, wrong}
use Rattle.language.specs.Syntax.{Operand, Binding, tolower, call, compare, nothing, fields, single, Expr, term, let_in}
use Rattle.language.specs.Grammar.{Reader, then_read, ◌>>=◌, ◌>>◌, ◌∣◌, give, the_sign, the, any_name, any_operand, any_fields, function_of, comparison_of, ahead, any_function, any_comparison, any_call, any_term, any_lets, any_expression}
use Rattle.tokens.proofs.Reading.{no_some}
use Rattle.syntax.proofs.Fuel.{NotLonger, Agree, rest_is, sign_shorter, name_shorter, give_not_longer, weaker, bind_not_longer, or_not_longer, operand_not_longer, bind_agree, bind_agree_less, one_field, all_fields}

-- ---- a term takes tokens away

the_not_longer : (w : Text) → NotLonger (the_sign w)
the_not_longer w = weaker (the_sign w) (sign_shorter w)

name_not_longer : NotLonger any_name
name_not_longer = weaker any_name name_shorter

field_not_longer : (m : Reader (List Binding)) → NotLonger m → NotLonger (one_field m)
field_not_longer m h =
    bind_not_longer any_name _ name_not_longer (λ x.
    bind_not_longer (the "=") _ (the_not_longer (bytes "=")) (λ _.
    bind_not_longer any_operand _ operand_not_longer (λ v.
    or_not_longer _ _
    (bind_not_longer (the "}") _ (the_not_longer (bytes "}")) (λ _. give_not_longer (record { label = x; operand = v } ∷ [])))
    (bind_not_longer (the ",") _ (the_not_longer (bytes ",")) (λ _.
    bind_not_longer m _ h (λ rest. give_not_longer (record { label = x; operand = v } ∷ rest)))))))

fields_not_longer : (n : ℕ) → NotLonger (any_fields n)
fields_not_longer zero = λ ts us a e. no_some e
fields_not_longer (suc n) = field_not_longer (any_fields n) (fields_not_longer n)

all_fields_not_longer : NotLonger all_fields
all_fields_not_longer ts = fields_not_longer (length ts) ts

ahead_not_longer : {A : Type 0} (o : Option A) → NotLonger (ahead o)
ahead_not_longer none ts us a e = no_some e
ahead_not_longer (some b) ts us a e = omega (arith, ap length (rest_is e))

function_not_longer : NotLonger any_function
function_not_longer [] us a e = no_some e
function_not_longer (sign w ∷ ts) us a e = omega (arith, ahead_not_longer (function_of w) ts us a e)
function_not_longer (ident w ∷ ts) us a e = no_some e
function_not_longer (text w ∷ ts) us a e = no_some e
function_not_longer (wrong ∷ ts) us a e = no_some e

comparison_not_longer : NotLonger any_comparison
comparison_not_longer [] us a e = no_some e
comparison_not_longer (sign w ∷ ts) us a e = omega (arith, ahead_not_longer (comparison_of w) ts us a e)
comparison_not_longer (ident w ∷ ts) us a e = no_some e
comparison_not_longer (text w ∷ ts) us a e = no_some e
comparison_not_longer (wrong ∷ ts) us a e = no_some e

-- two values in parentheses
pair_not_longer : {A : Type 0} (f : Operand → Operand → A) → NotLonger (do the "("; v ← any_operand; the ","; w ← any_operand; the ")"; give (f v w))
pair_not_longer f =
    bind_not_longer (the "(") _ (the_not_longer (bytes "(")) (λ _.
    bind_not_longer any_operand _ operand_not_longer (λ v.
    bind_not_longer (the ",") _ (the_not_longer (bytes ",")) (λ _.
    bind_not_longer any_operand _ operand_not_longer (λ w.
    bind_not_longer (the ")") _ (the_not_longer (bytes ")")) (λ _. give_not_longer (f v w))))))

call_not_longer : NotLonger any_call
call_not_longer =
    or_not_longer _ _
    (bind_not_longer (the "tolower") _ (the_not_longer (bytes "tolower")) (λ _.
    bind_not_longer (the "(") _ (the_not_longer (bytes "(")) (λ _.
    bind_not_longer any_operand _ operand_not_longer (λ v.
    bind_not_longer (the ")") _ (the_not_longer (bytes ")")) (λ _. give_not_longer (tolower v))))))
    (or_not_longer _ _
    (bind_not_longer any_function _ function_not_longer (λ f. pair_not_longer (call f)))
    (bind_not_longer any_comparison _ comparison_not_longer (λ k. pair_not_longer (compare k))))

pub term_not_longer : NotLonger any_term
term_not_longer =
    or_not_longer _ _
    (bind_not_longer (the "[]") _ (the_not_longer (bytes "[]")) (λ _. give_not_longer nothing))
    (or_not_longer _ _
    (bind_not_longer (the "{") _ (the_not_longer (bytes "{")) (λ _.
    bind_not_longer all_fields _ all_fields_not_longer (λ fs. give_not_longer (fields fs))))
    (or_not_longer _ _
    call_not_longer
    (bind_not_longer any_operand _ operand_not_longer (λ v. give_not_longer (single v)))))

-- ---- expressions

-- a let, of expressions that `inner` reads, or a term
abbrev pub one_expression : Reader Expr → Reader Expr
one_expression inner =
    (do the "let"; x ← any_name; the "="; e ← inner; the "in"; f ← inner; give (let_in x e f))
    ∣ (do t ← any_term; give (term t))

pub lets_not_longer : (n : ℕ) → NotLonger (any_lets n)
lets_not_longer zero = λ ts us a e. no_some e
lets_not_longer (suc n) =
    or_not_longer _ _
    (bind_not_longer (the "let") _ (the_not_longer (bytes "let")) (λ _.
    bind_not_longer any_name _ name_not_longer (λ x.
    bind_not_longer (the "=") _ (the_not_longer (bytes "=")) (λ _.
    bind_not_longer (any_lets n) _ (lets_not_longer n) (λ e.
    bind_not_longer (the "in") _ (the_not_longer (bytes "in")) (λ _.
    bind_not_longer (any_lets n) _ (lets_not_longer n) (λ f. give_not_longer (let_in x e f))))))))
    (bind_not_longer any_term _ term_not_longer (λ t. give_not_longer (term t)))

-- first readers that agree, and what follows them
both_agree :
    {A B : Type 0} (n : ℕ) (m k : Reader A) (f g : A → Reader B)
    → NotLonger m
    → Agree n m k
    → ((a : A) → Agree n (f a) (g a))
    → Agree n (m >>= f) (k >>= g)
both_agree n m k f g h e next ts l = bind_agree n m f g h next ts l ∙ ap (λ r. then_read r g) (e ts l)

-- readers that agree on the tokens that are left make one that agrees
expression_agree : (n : ℕ) (m k : Reader Expr) → NotLonger m → Agree n m k → Agree (suc n) (one_expression m) (one_expression k)
expression_agree n m k h e ts l =
    ap (λ r. r or_else ((any_term >>= λ t. give (term t)) ts))
    (bind_agree_less n (the "let") _ _ (sign_shorter (bytes "let")) (λ _.
    bind_agree n any_name _ _ name_not_longer (λ x.
    bind_agree n (the "=") _ _ (the_not_longer (bytes "=")) (λ _.
    both_agree n m k _ _ h e (λ a.
    bind_agree n (the "in") _ _ (the_not_longer (bytes "in")) (λ _.
    both_agree n m k _ _ h e (λ b us q. refl)))))) ts l)

none_more : Agree zero (any_lets zero) (any_lets (suc zero))
none_more [] l = refl
none_more (t ∷ ts) l = absurd (omega arith)

one_more : (n : ℕ) → Agree n (any_lets n) (any_lets (suc n))
one_more zero = none_more
one_more (suc n) = expression_agree n (any_lets n) (any_lets (suc n)) (lets_not_longer n) (one_more n)

-- any bound that is large enough will do
enough : (d : ℕ) (ts : List Token) → any_lets (length ts + d) ts ≡ any_lets (length ts) ts
enough zero ts = rw (add-zero (length ts))
enough (suc d) ts = rw (add-suc (length ts) d) (sym (one_more (length ts + d) ts (omega arith)) ∙ enough d ts)

bounded : (n : ℕ) → Agree n (any_lets n) any_expression
bounded n ts l =
    let q : length ts + (n - length ts) ≡ n = omega arith in
    ap (λ (k : ℕ). any_lets k ts) (sym q) ∙ enough (n - length ts) ts

-- an expression is a let of expressions, or a term
pub expression_step : (ts : List Token) → any_expression ts ≡ one_expression any_expression ts
expression_step ts =
    one_more (length ts) ts (omega arith)
    ∙ expression_agree (length ts) (any_lets (length ts)) any_expression (lets_not_longer (length ts)) (bounded (length ts)) ts (omega arith)
