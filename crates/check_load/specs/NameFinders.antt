-- Where names are found.
use Rattle.std.specs.Prelude.{ℕ, List}
use Rattle.check_load.specs.declared.name_table.Finder.{Finder}
use Rattle.check_load.specs.declared.name_table.Finder.TheVariants as finder

abbrev pub names_of : Finder → List (List ℕ)
names_of (finder.Hashed names) = names
names_of (finder.Ordered names) = names
