-- The refusal of document 01, "Commands", that each case says.
use Rattle.language.specs.Commands as Commands
use Rattle.language.specs.Commands.{DENIED, FAILED, FULL}
use Rattle.refusal.specs.declared.Refusal.{Refusal}
use Rattle.refusal.specs.declared.Refusal.TheVariants.{Denied, Failed, Full}

abbrev pub refusal_meant : Refusal → Commands.Refusal
refusal_meant Denied = DENIED
refusal_meant Failed = FAILED
refusal_meant Full = FULL
