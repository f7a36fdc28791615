-- The crate's types as clauses see them: texts as byte lists, collections as lists.
use Rattle.std.specs.Prelude.{ℕ, Bool, List, map, Option}
use Rattle.std.specs.Borrow.{Bor}
use Rattle.std.specs.Option.{option_copied}
use Rattle.elf_model.specs.Inputs.Command as command
use Rattle.command.specs.declared.items.Source.{Source}
use Rattle.command.specs.declared.items.Source.TheVariants as source
use Rattle.command.specs.declared.items.Item.{Item}

abbrev pub source_of : Source → command.Source
source_of (source.Path path) = command.Path path.now
source_of (source.Library name) = command.Library name.now

abbrev pub item_of : Item → command.Item
item_of i = record { source = source_of i.source; archive = i.archive; whole = i.whole; group = i.group }

abbrev pub texts_of : List (Bor (List ℕ)) → List (List ℕ)
texts_of ts = map (λ t. t.now) ts

-- the plan that the parts of a Plan make
abbrev pub plan_of : List Item → List (Bor (List ℕ)) → List (Bor (List ℕ)) → Bor (List ℕ) → ℕ → Bor (List ℕ) → Option (Bor (List ℕ)) → Bool → Bool → command.Plan
plan_of items directories undefined entry base output map_path check strip = record {
  items = map item_of items;
  directories = texts_of directories;
  undefined = texts_of undefined;
  entry = entry.now;
  base = base;
  output = output.now;
  map = option_copied map_path;
  check = check;
  strip = strip;
}
