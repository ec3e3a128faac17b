-- The walk over a program's commands, as far as it has come: which kinds are listed, and which commands are left.
use mathlib.Core.Path.{◌≡◌, refl, sym, ap, ◌∙◌}
use Prim.Native.Nat.{ℕ, suc, ◌+◌, ◌≤◌, ◌<◌}
use native.Mathlib.Numerals.{add-one}
use native.Mathlib.Omega.{arith}
use mathlib.Core.Option.{Option, none, some, some_inj}
use mathlib.Core.List.{List, [], ◌∷◌, ◌++◌, map, append_assoc, append-nil, map-append}
use lib.ListN.{length, drop, set as put, get_or, length-append, length-map, length-drop}
use lib.Seq.{drop-cons, set_at}
use Rattle.language.specs.Text.{Text, ◌>>=◌}
use Rattle.text.specs.Meaning.{part}
use Rattle.language.specs.Syntax as Syntax
use Rattle.std.proofs.Common as Code
use Rattle.std.proofs.Common.{Some, None}
use Rattle.parser.specs.Bodies.{body_from, rest_from, First}
use Rattle.command_readers.specs.Commands.{command_meant}
use Rattle.syntax.specs.Values.{expr_meant}
use Rattle.command_readers.specs.declared.Command.{Command}
use Rattle.command_readers.specs.declared.Command.TheVariants.{Administer, Variable}
use Rattle.command_readers.specs.declared.Administration.TheVariants.{CreatePrincipal, ChangePassword, SetDelegation, DeleteDelegation, DefaultDelegator, Exit}
use Rattle.command_readers.specs.declared.VariableCommand.TheVariants.{Set, Append, Local, Foreach, Filtereach, Return}
use Rattle.parser_c.specs.Kinds.{kind_of, code, SomeCommands, Listed}

the : {d c : Syntax.Command} → some d ≡ some c → d ≡ c
the e = cc

-- what an expression's command means has the kind of whatever the expression is
bound : (o : Option Syntax.Expr) (f : Syntax.Expr → Syntax.Command) (n : ℕ) (c : Syntax.Command)
    → ((v : Syntax.Expr) → n ≡ kind_of (f v)) → (o >>= λ v. some (f v)) ≡ some c → n ≡ kind_of c
bound none f n c g h = let z : ◌≡◌ {A = ℕ} 0 1 = cc in absurd (impossible z)
  where
    impossible : ◌≡◌ {A = ℕ} 0 1 → ⊥
    impossible e = omega arith
bound (some v) f n c g h = g v ∙ ap kind_of (the h)

-- a command by its places has the kind of the command that they mean
pub code_kind : (t : Text) (k : Command) (c : Syntax.Command) → command_meant t k ≡ some c → code k ≡ kind_of c
code_kind t (Administer (CreatePrincipal p s)) c h = ap kind_of (the h)
code_kind t (Administer (ChangePassword p s)) c h = ap kind_of (the h)
code_kind t (Variable (Set x e)) c h = bound (expr_meant t e) (Syntax.set (part t x)) 3 c (λ v. refl) h
code_kind t (Variable (Append x e)) c h = bound (expr_meant t e) (Syntax.append_to (part t x)) 4 c (λ v. refl) h
code_kind t (Variable (Local x e)) c h = bound (expr_meant t e) (Syntax.local (part t x)) 5 c (λ v. refl) h
code_kind t (Variable (Foreach y x e)) c h = bound (expr_meant t e) (Syntax.foreach (part t y) (part t x)) 6 c (λ v. refl) h
code_kind t (Variable (Filtereach y x e)) c h = bound (expr_meant t e) (Syntax.filtereach (part t y) (part t x)) 12 c (λ v. refl) h
code_kind t (Administer (SetDelegation x q r p)) c h = ap kind_of (the h)
code_kind t (Administer (DeleteDelegation x q r p)) c h = ap kind_of (the h)
code_kind t (Administer (DefaultDelegator p)) c h = ap kind_of (the h)
code_kind t (Administer Exit) c h = ap kind_of (the h)
code_kind t (Variable (Return e)) c h = bound (expr_meant t e) Syntax.return 10 c (λ v. refl) h

-- n kinds are listed, and the walk has come to place p
pub record Going (t : Text) (at : ℕ) (old now : Text) (p n : ℕ) : Type 0 where
  pub passed : List Syntax.Command
  pub rest : List Syntax.Command
  pub all : body_from t at ≡ some (passed ++ rest)
  pub left : body_from t p ≡ some rest
  pub count : n ≡ length passed
  pub kinds : now ≡ map kind_of passed ++ drop n old
  pub within : p ≤ length t
  pub pace : at + n ≤ p

pub begins : (t : Text) (at : ℕ) (old : Text) → SomeCommands t at → Going t at old old at 0
begins t at old s = record {
  passed = [];
  rest = s.commands;
  all = s.are;
  left = s.are;
  count = refl;
  kinds = refl;
  within = s.within;
  pace = omega arith;
}

-- of the commands cs the first is c, and the others are those of o
pub record Split (cs : List Syntax.Command) (c : Syntax.Command) (o : Option (List Syntax.Command)) : Type 0 where
  pub others : List Syntax.Command
  pub are : o ≡ some others
  pub together : cs ≡ c ∷ others

split : (cs : List Syntax.Command) (c : Syntax.Command) (o : Option (List Syntax.Command)) → some cs ≡ (o >>= λ ds. some (c ∷ ds)) → Split cs c o
split cs c none e = absurd (let z : ◌≡◌ {A = ℕ} 0 1 = cc in omega arith)
split cs c (some ds) e = record { others = ds; are = refl; together = some_inj.0 e }

module _ (t : Text) (at : ℕ) (old now : Text) (p n : ℕ) (short : length t ≤ 16384) (room : 16384 ≤ length old) (g : Going t at old now p n) where
  pub below : length now ≡ length old
  below = let h : n ≤ length old = omega (arith, g.pace, g.within) in
      ap length g.kinds ∙ length-append (map kind_of g.passed) (drop n old)
      ∙ omega (arith, length-map g.passed kind_of, length-drop n old, g.count)

  module _ (k : Command) (rest : Code.Option ℕ) (f : First t p k rest) where
    next : Split g.rest f.command (rest_from t rest)
    next = split g.rest f.command (rest_from t rest) (sym g.left ∙ f.all)

    fits : n < length old
    fits = omega (arith, g.pace, g.within, room_left rest f)
      where
        room_left : (rest : Code.Option ℕ) → First t p k rest → p < length t
        room_left (Some m) f = omega (arith, f.placed.0, f.placed.1)
        room_left None f = omega (arith, f.placed)

    listed : put now n (code k) ≡ map kind_of (g.passed ++ (f.command ∷ [])) ++ drop (n + 1) old
    listed =
        ap (λ y. put y n (code k)) (g.kinds ∙ ap (λ y. map kind_of g.passed ++ y) (drop-cons old n 0 fits))
        ∙ set_at (map kind_of g.passed) (get_or old n 0) (drop (suc n) old) (code k) n (length-map g.passed kind_of ∙ sym g.count)
        ∙ ap (λ y. map kind_of g.passed ++ y ∷ drop (suc n) old) (code_kind t k f.command f.meant)
        ∙ ap (λ m. map kind_of g.passed ++ kind_of f.command ∷ drop m old) (sym (add-one n))
        ∙ sym (append_assoc (map kind_of g.passed) (kind_of f.command ∷ []) (drop (n + 1) old))
        ∙ ap (λ y. y ++ drop (n + 1) old) (sym (map-append kind_of g.passed (f.command ∷ [])))

    passed_all : body_from t at ≡ some ((g.passed ++ (f.command ∷ [])) ++ next.others)
    passed_all = g.all ∙ ap (λ y. some (g.passed ++ y)) next.together ∙ ap some (sym (append_assoc g.passed (f.command ∷ []) next.others))

    count_one : n + 1 ≡ length (g.passed ++ (f.command ∷ []))
    count_one = ap (λ y. y + 1) g.count ∙ sym (length-append g.passed (f.command ∷ []))

  pub goes_on : (k : Command) (m : ℕ) → First t p k (Some m) → Going t at old (put now n (code k)) m (n + 1)
  goes_on k m f = record {
    passed = g.passed ++ (f.command ∷ []);
    rest = (next k (Some m) f).others;
    all = passed_all k (Some m) f;
    left = (next k (Some m) f).are;
    count = count_one k (Some m) f;
    kinds = listed k (Some m) f;
    within = f.placed.1;
    pace = omega (arith, g.pace, f.placed.0);
  }

  pub ends : (k : Command) → First t p k None → (cs : List Syntax.Command) → body_from t at ≡ some cs → Listed cs old (put now n (code k)) (n + 1)
  ends k f cs e =
      let N = next k None f in
      let last : N.others ≡ [] = some_inj.0 (sym N.are) in
      let same : cs ≡ g.passed ++ (f.command ∷ []) =
      some_inj.0 (sym e ∙ passed_all k None f) ∙ ap (λ y. (g.passed ++ (f.command ∷ [])) ++ y) last ∙ append-nil (g.passed ++ (f.command ∷ [])) in
      record { count = count_one k None f ∙ ap length (sym same); kinds = listed k None f ∙ ap (λ l. map kind_of l ++ drop (n + 1) old) (sym same) }

-- ---- the whole text
