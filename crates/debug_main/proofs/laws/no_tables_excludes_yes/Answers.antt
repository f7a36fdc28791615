use Rattle.debug_main.proofs.Exclusions.{none_excludes, refused_excludes}
use Rattle.debug_main.proofs.laws.no_tables_excludes_yes.Goals as goal

pub returns-clause-refused : goal.returns-clause-refused
returns-clause-refused c = λ files words w image is one. refused_excludes files words w image is one

pub returns-clause-none : goal.returns-clause-none
returns-clause-none c = λ files words w image d is one. none_excludes files words w image d is one
