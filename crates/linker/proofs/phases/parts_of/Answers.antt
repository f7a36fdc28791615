use Rattle.std.proofs.Common.{◌≡◌, ◌∙◌, ℕ, Bool, true, false, List, ap, subst, sym}
use Rattle.std.specs.Prelude.{All, None, Option, Some, option_map, unwrap_or}
use Rattle.std.specs.Borrow.{Bor}
use Rattle.std.specs.Global.{Vec}
use Rattle.std.proofs.lemmas.List.Elements.{All-nil}
use Rattle.elf_model.specs.Inputs.Command.{Plan}
use Rattle.elf_model.specs.Own.ImageFile.{own_end, own_entry}
use Rattle.elf_model.specs.Link.Listing.{AreLinkerLines}
use Rattle.elf_model.specs.Link.Loading.{LoadedObject}
use Rattle.elf_model.specs.declared.bound.Bound.{Bound}
use Rattle.elf_model.specs.Link.Meaning.{Meaning, meaning_value}
use Rattle.elf_model.specs.Own.OwnLayout.{IsNotTooLarge, own_in_load_order, own_where}
use Rattle.elf_model.specs.Link.Pieces.{AreLawfulKinds}
use Rattle.layout.specs.Placements.{Basis}
use Rattle.resolve.specs.Views.{meaning_view, meaning_views}
use Rattle.resolve.specs.declared.definition.Definition as code
use Rattle.elf_model.proofs.Listed.{All-unmap}
use Rattle.relocate.specs.Uses.{line_views}
use Rattle.image_write.specs.Listings.{AreKept, in_order, table_in}
use Rattle.image_write.specs.Maps.{LiesWithin, own_table}
use Rattle.image_write.specs.Tables.{HasTable}
use Rattle.image_write.specs.declared.listed.Listed.{Listed}
use Rattle.image_write.specs.declared.symbol_table.SymbolTable.{SymbolTable}
use Rattle.linker.specs.Linkages.{HasTabled, kept_of}
use Rattle.linker.proofs.Values.{entry_lies, meanings_lie}
use Rattle.linker.proofs.phases.parts_of.Goals as goal

pub definition_value-entry-requires-clause-within : goal.definition_value-entry-requires-clause-within
definition_value-entry-requires-clause-within c =
    let laid = c.requires.linkable.laid_out in
    let placed = c.requires.placed in
    subst (λ (b : Basis). LiesWithin (own_in_load_order b.base b.objects) (meaning_view c.args.entry.now)) (sym placed)
    (entry_lies c.args.loaded.now.plan.base c.args.loaded.now.objects laid.referred.resolved.kinds laid.room.layout laid.referred.resolved.sound
    c.args.loaded.now.plan.entry (meaning_view c.args.entry.now) c.requires.entry)

pub definition_value-entry-requires-clause-kinds : goal.definition_value-entry-requires-clause-kinds
definition_value-entry-requires-clause-kinds c =
    let placed = c.requires.placed in
    subst (λ (b : Basis). AreLawfulKinds b.objects) (sym placed) c.requires.linkable.laid_out.referred.resolved.kinds

pub show_spellings-requires-clause-kinds : goal.show_spellings-requires-clause-kinds
show_spellings-requires-clause-kinds c =
    let placed = c.requires.placed in
    subst (λ (b : Basis). AreLawfulKinds b.objects) (sym placed) c.requires.linkable.laid_out.referred.resolved.kinds

pub show_spellings-requires-clause-slots : goal.show_spellings-requires-clause-slots
show_spellings-requires-clause-slots c =
    let placed = c.requires.placed in
    c.requires.slots ∙ ap (λ (b : Basis). own_table b.objects) (sym placed)

-- what is kept of the definitions
kept_are :
    (objects : List LoadedObject) (strip : Bool) (r : List LoadedObject) (lines : Vec (Bor (List ℕ) × Bound)) (o : Option (Vec code.Definition × SymbolTable)) (e : ℕ) →
    r ≡ objects → AreLinkerLines objects (line_views lines.items) → HasTabled objects e strip o → AreKept objects (kept_of r lines o)
kept_are objects strip r lines None e same are has = (same, are)
kept_are objects true r lines (Some t) e same are has = absurd has
kept_are objects false r lines (Some t) e same are has = has.0

kept_table :
    (objects : List LoadedObject) (strip : Bool) (r : List LoadedObject) (lines : Vec (Bor (List ℕ) × Bound)) (o : Option (Vec code.Definition × SymbolTable)) (e : ℕ) →
    HasTabled objects e strip o → HasTable objects e (meaning_views (in_order (kept_of r lines o))) strip (table_in (kept_of r lines o))
kept_table objects true r lines None e has = tt
kept_table objects false r lines None e has = absurd has
kept_table objects true r lines (Some t) e has = absurd has
kept_table objects false r lines (Some t) e has = has.1

kept_lie :
    (p : Plan) (objects : List LoadedObject) → AreLawfulKinds objects → IsNotTooLarge p.base objects →
    (r : List LoadedObject) (lines : Vec (Bor (List ℕ) × Bound)) (o : Option (Vec code.Definition × SymbolTable)) →
    HasTabled objects (own_end p.base objects) p.strip o →
    All (λ (m : code.Definition). LiesWithin (own_in_load_order p.base objects) (meaning_view m)) (in_order (kept_of r lines o))
kept_lie p objects kinds fits r lines None has = All-nil (λ (m : code.Definition). LiesWithin (own_in_load_order p.base objects) (meaning_view m))
kept_lie p objects kinds fits r lines (Some t) has = by p.strip has
  where
    by :
        (strip : Bool) → HasTabled objects (own_end p.base objects) strip (Some t) →
        All (λ (m : code.Definition). LiesWithin (own_in_load_order p.base objects) (meaning_view m)) t.0.items
    by true h = absurd h
    by false h =
        All-unmap (LiesWithin (own_in_load_order p.base objects)) meaning_view t.0.items
        (meanings_lie p.base objects kinds fits h.0.sound (meaning_views t.0.items) h.0.listed)

pub returns : goal.returns
returns c =
    let p = c.args.loaded.now.plan in
    let objects = c.args.loaded.now.objects in
    let placed = c.requires.placed in
    let m = meaning_view c.args.entry.now in
    let e = own_end p.base objects in
    let entered : own_entry p.base objects p.entry ≡ meaning_value (own_where p.base objects) m =
    ap (λ (o : Option Meaning). unwrap_or (option_map (meaning_value (own_where p.base objects)) o) 0) c.requires.entry in
    record {
      base = c.requires.base;
      objects = c.show_spellings.ensures.objects;
      kinds = c.requires.linkable.laid_out.referred.resolved.kinds;
      not_too_large = c.requires.linkable.laid_out.room.layout;
      listed = subst (AreKept objects) (sym c.kept.ensures) (kept_are objects p.strip c.args.resolved c.args.linkers c.args.tabled e c.requires.same c.requires.linkers c.requires.tabled);
      placed = c.requires.placed;
      table = c.requires.slots;
      values = c.requires.values;
      patches = c.requires.patches ∙ c.requires.placed;
      entry =
          entered
          ∙ (ap (λ (b : Basis). meaning_value (own_where b.base b.objects) m) (sym placed) ∙ sym c.definition_value-entry.ensures.value);
      entry_fits = c.definition_value-entry.ensures.fits;
      tabled =
          subst (λ (k : Listed). HasTable objects e (meaning_views (in_order k)) p.strip (table_in k)) (sym c.kept.ensures)
          (kept_table objects p.strip c.args.resolved c.args.linkers c.args.tabled e c.requires.tabled);
      within =
          subst (λ (k : Listed). All (λ (m : code.Definition). LiesWithin (own_in_load_order p.base objects) (meaning_view m)) (in_order k)) (sym c.kept.ensures)
          (kept_lie p objects c.requires.linkable.laid_out.referred.resolved.kinds c.requires.linkable.laid_out.room.layout c.args.resolved c.args.linkers c.args.tabled
          c.requires.tabled);
      spelled = c.show_spellings.ensures.spelled;
    }
