use mathlib.Core.Path.{ap, ◌∙◌}
use mathlib.Core.List.{List, map}
use Rattle.language.specs.Syntax.{Name}
use Rattle.forms.specs.Forms.{target_meant}
use Rattle.store.specs.Rows.{position, principal_row, variable_row}
use Rattle.store.proofs.Answers.{principal_names_lem, variable_names_lem}
use Rattle.store.proofs.Holders.{principals_rows, variables_rows}
use Rattle.text.specs.Meaning.{part}
use Rattle.delegation_rules.specs.Asking.{aim_of}
use borrow.Author.Rules.{rules}
use Rattle.delegation_rules.proofs.asked.Goals as goal

pub returns : goal.returns
returns c s locals ms assertions R =
    let a = c.args in
    let t = a.text.now in
    let K = principals_rows s.store.principals _ _ _ R.principals in
    let W = variables_rows s.store.variables _ _ _ R.variables in
    record {
      aim_is = c.aim_of-aim.ensures (map variable_row s.store.variables) W ∙ ap (λ (l : List Name). aim_of l (target_meant t a.target)) (variable_names_lem s.store.variables);
      giver_is = c.number_of-giver.ensures (map principal_row s.store.principals) K ∙ ap (λ (l : List Name). position l (part t a.q)) (principal_names_lem s.store.principals);
      taker_is = c.number_of-taker.ensures (map principal_row s.store.principals) K ∙ ap (λ (l : List Name). position l (part t a.p)) (principal_names_lem s.store.principals);
    }
