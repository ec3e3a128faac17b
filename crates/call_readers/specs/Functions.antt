-- What the operation, the function or the comparison that a keyword names means in the terms of the language's grammar, and the two values
-- that follow it.
use Rattle.language.specs.Text.{Text}
use Rattle.language.specs.Syntax as Syntax
use Rattle.language.specs.Grammar.{Reader, ◌>>=◌, ◌>>◌, give, the, any_operand, any_comparison}
use Rattle.syntax.specs.declared.Operand.{Operand}
use Rattle.syntax.specs.Values.{operand_meant, OperandWithin}

-- the term that a keyword makes of two values
abbrev pub Made : Type 0
Made = Syntax.Operand → Syntax.Operand → Syntax.Term

-- two values in parentheses, and what is made of them
abbrev pub two_values : Made → Reader Syntax.Term
two_values made = do the "("; v ← any_operand; the ","; w ← any_operand; the ")"; give (made v w)

-- a call that is a comparison
abbrev pub comparing : Reader Syntax.Term
comparing = any_comparison >>= λ k. two_values (Syntax.compare k)

abbrev pub pair_meant : Made → Text → Operand × Operand → Syntax.Term
pair_meant made t p = made (operand_meant t p.0) (operand_meant t p.1)

abbrev pub PairWithin : Text → Operand × Operand → Type 0
PairWithin t p = OperandWithin t p.0 × OperandWithin t p.1
