use mathlib.Core.Path.{◌≡◌, sym}
use mathlib.Core.List.{[], ◌∷◌}
use mathlib.Core.Bool.{true, false}
use native.Mathlib.Omega.{arith}
use lib.ListN.{get_or}
use Rattle.language.specs.Text.{bytes}
use Rattle.language.specs.Bytes.{◌is◌, ◌∈◌}
use Rattle.text.proofs.Classes.{in_interval, at_keys, same_bool, same_bool_lem}
use Rattle.tokens.proofs.Lexing.{class_mark, one_mark}
use Rattle.tokens.proofs.token.mark_at.Goals as goal

pub returns-in-61-clause-meant : goal.returns-in-61-clause-meant
returns-in-61-clause-meant c =
    let t = c.args.text.now in
    let i = c.args.at in
    let m = c.args.m in
    let quote : (m is "\"") ≡ false = sym (at_keys same_bool same_bool_lem (λ _. false) (λ x. x is "\"") (44 ∷ 46 ∷ 61 ∷ 123 ∷ 125 ∷ []) tt m c.in-61.is) in
    let single : (m ∈ bytes "=.,{}()") ≡ true = sym (at_keys same_bool same_bool_lem (λ _. true) (λ x. x ∈ bytes "=.,{}()") (44 ∷ 46 ∷ 61 ∷ 123 ∷ 125 ∷ []) tt m c.in-61.is) in
    one_mark t i c.requires.at_in_bounds m c.requires.at_value quote single (class_mark (get_or t i 0) m c.requires.at_value)

pub returns-in-61-2-clause-meant : goal.returns-in-61-2-clause-meant
returns-in-61-2-clause-meant c =
    let t = c.args.text.now in
    let i = c.args.at in
    let m = c.args.m in
    let quote : (m is "\"") ≡ false = sym (in_interval same_bool same_bool_lem (λ _. false) (λ x. x is "\"") 40 2 [] tt m (omega arith) (omega arith) (λ z. z)) in
    let single : (m ∈ bytes "=.,{}()") ≡ true = sym (in_interval same_bool same_bool_lem (λ _. true) (λ x. x ∈ bytes "=.,{}()") 40 2 [] tt m (omega arith) (omega arith) (λ z. z)) in
    one_mark t i c.requires.at_in_bounds m c.requires.at_value quote single (class_mark (get_or t i 0) m c.requires.at_value)
