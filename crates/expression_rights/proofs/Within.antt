-- What is found out of an expression; and a sender that may read all that stands in it may read what of it is evaluated, wherever that is tried.
-- Assumes nothing.
use mathlib.Core.Path.{◌≡◌, refl}
use mathlib.Core.Bool.{false}
use mathlib.Core.List.{List, []}
use Rattle.language.specs.Syntax.{Name, Term, Expr, term, let_in}
use Rattle.language.specs.Outcomes.{Outcome, gives, fails, fills}
use Rattle.language.specs.Values.{Session}
use Rattle.language.specs.Expressions.{term_names, Environment, inside, value_within, tried, names_within}
use Rattle.permits.specs.Permits.{unread}
use Rattle.permits.specs.declared.Known.{Known}
use Rattle.permits.specs.declared.Known.TheVariants as Is
use Rattle.permits.specs.Knowledge.{terms_then, terms, names_of, Knows}
use Rattle.expression_rights.specs.Finding.{Finds}
use Rattle.permits.proofs.Readers.{none_unread, each_readable}

-- what is found out is known
pub found_knows : (s : Session) (ts : List Term) (k : Known) → Finds k s ts → Knows k s ts
found_knows s ts Is.All h = h
found_knows s ts (Is.Until k) h = h
found_knows s ts Is.Nothing h = tt

within_tried : (s : Session) (o : Outcome Environment) (f : Environment → List Name) → ((env : Environment) → unread s (f env) ≡ false) → unread s (tried o f) ≡ false
within_tried s (gives env) f h = h env
within_tried s fails f h = refl
within_tried s fills f h = refl

-- what an expression evaluates anywhere, and the terms behind it
within_then : (s : Session) (x : Expr) (rest : List Term) → unread s (names_of (terms_then x rest)) ≡ false
    → ((env : Environment) → unread s (names_within env x) ≡ false) × (unread s (names_of rest) ≡ false)
within_then s (term t) rest h =
    let (i, j) = each_readable s (term_names t) (names_of rest) h in
    (λ env. i, j)
within_then s (let_in x e f) rest h =
    let (i, k) = within_then s e (terms_then f rest) h in
    let (j, l) = within_then s f rest k in (
      λ env. none_unread s (names_within env e) (tried (inside env x (value_within env e)) (λ inner. names_within inner f)) (i env)
          (within_tried s (inside env x (value_within env e)) (λ inner. names_within inner f) j),
      l,
    )

pub within_all : (s : Session) (x : Expr) → unread s (names_of (terms x)) ≡ false → (env : Environment) → unread s (names_within env x) ≡ false
within_all s x h = (within_then s x [] h).0
