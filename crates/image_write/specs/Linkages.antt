-- What a linkage is of, and what it keeps.
use Rattle.std.specs.Prelude.{◌≡◌, ℕ, ◌^◌, ◌<◌, List, All, map}
use Rattle.elf_model.specs.Inputs.Command.{IsBase, Plan}
use Rattle.elf_model.specs.Own.ImageFile.{image_file, own_end, own_entry, own_tables}
use Rattle.elf_model.specs.Link.Loading.{AreObjects, LoadedObject}
use Rattle.elf_model.specs.Link.Listing.{AreListed}
use Rattle.elf_model.specs.Image.MapText.{Ascends, Fits, SymbolBefore}
use Rattle.elf_model.specs.Link.Meaning.{Meaning}
use Rattle.elf_model.specs.Own.OwnLayout.{IsNotTooLarge, own_in_load_order, own_where}
use Rattle.elf_model.specs.Link.Pieces.{AreLawfulKinds}
use Rattle.elf_model.specs.Link.Slots.{slots}
use Rattle.relocate.specs.Values.{slot_value_of}
use Rattle.resolve.specs.Views.{meaning_view, meaning_views}
use Rattle.search.specs.Loads.{LoadedPlan}
use Rattle.elf_model.specs.Image.RightLink.{symbol_row_of}
use Rattle.image_write.specs.Listings.{AreKept, in_order, table_in}
use Rattle.image_write.specs.Maps.{LiesWithin, own_record, own_table}
use Rattle.image_write.specs.Tables.{HasTable, table_of}
use Rattle.image_write.specs.declared.linkage.Parts.{Parts}

-- the definitions that have a line can be listed in the order of their names, and the own map of that list can be spelled
pub record HasSpelledMap (p : Plan) (objects : List LoadedObject) : Type 0 where
  pub lines : List Meaning
  pub listed : AreListed objects lines
  pub rising : Ascends SymbolBefore (map (symbol_row_of (own_where p.base objects)) lines)
  pub fits : Fits (own_record (record { base = p.base; objects = objects }) p.strip lines)

-- what the layers make of a plan and its objects, and that their map can be spelled
pub record AreParts (l : LoadedPlan) (x : Parts) : Type 0 where
  pub base : IsBase l.plan.base
  pub objects : AreObjects l.objects
  pub kinds : AreLawfulKinds l.objects
  pub not_too_large : IsNotTooLarge l.plan.base l.objects
  pub listed : AreKept l.objects x.listed
  pub placed : x.placement ≡ record { base = l.plan.base; objects = l.objects }
  pub table : x.slots ≡ own_table l.objects
  pub values : x.values.items ≡ map (slot_value_of l.objects (own_where l.plan.base l.objects)) (slots l.objects)
  pub patches : x.patches ≡ record { base = l.plan.base; objects = l.objects }
  pub entry : own_entry l.plan.base l.objects l.plan.entry ≡ x.entry
  pub entry_fits : x.entry < 2 ^ 64
  pub tabled : HasTable l.objects (own_end l.plan.base l.objects) (meaning_views (in_order x.listed)) l.plan.strip (table_in x.listed)
  pub within : All (λ m. LiesWithin (own_in_load_order l.plan.base l.objects) (meaning_view m)) (in_order x.listed)
  pub spelled : HasSpelledMap l.plan l.objects

-- a link as clauses see it: the plan of a command, the objects that it loads, in load order, the names that have numbers, and,
-- where the image has a symbol table, the definitions that have a line in the map, in the order of their names
pub record Linked : Type 0 where
  pub plan : Plan
  pub objects : List LoadedObject
  pub names : List (List ℕ)
  pub listed : List Meaning

abbrev pub loaded_of : Linked → LoadedPlan
loaded_of l = record { plan = l.plan; objects = l.objects; names = l.names }

abbrev pub linked_of : LoadedPlan → Parts → Linked
linked_of l x = record { plan = l.plan; objects = l.objects; names = l.names; listed = meaning_views (in_order x.listed) }

-- the image file of a link's own layout
abbrev pub own_image : Linked → List ℕ
own_image l =
    image_file l.plan.base l.objects (own_entry l.plan.base l.objects l.plan.entry) (table_of l.plan.strip l.objects l.listed)

-- what stands in it behind the last file part
abbrev pub tables_in : Linked → List ℕ
tables_in l = own_tables l.plan.base l.objects (table_of l.plan.strip l.objects l.listed)
