use Rattle.std.proofs.Common.{◌≡◌, ◌∙◌, Bool, true, false, List, [], ap, refl, subst, sym}
use Rattle.std.specs.Prelude.{All, None, Some}
use Rattle.elf_model.specs.Own.ImageFile.{own_end, own_tables}
use Rattle.elf_model.specs.Own.OwnLayout.{own_in_load_order, own_where}
use Rattle.elf_model.specs.Link.Pieces.{AreLawfulKinds}
use Rattle.elf_model.specs.Image.SymbolTable.{tables}
use Rattle.layout.specs.Placements.{Basis}
use Rattle.resolve.specs.Views.{meaning_view, meaning_views}
use Rattle.resolve.specs.declared.definition.Definition as code
use Rattle.search.specs.Loads.{LoadedPlan}
use Rattle.image_write.specs.Linkages.{AreParts, Linked, loaded_of, tables_in}
use Rattle.image_write.specs.Listings.{in_order, table_in}
use Rattle.image_write.specs.Maps.{LiesWithin}
use Rattle.image_write.specs.Tables.{HasTable, entered, table_of}
use Rattle.image_write.specs.declared.linkage.Parts.{Parts}
use Rattle.image_write.specs.declared.symbol_table.SymbolTable.{SymbolTable}
use Rattle.image_write.proofs.StreamLaws.{grows_nothing, puts_are}
use Rattle.image_write.proofs.written_image.write_tables.Goals as goal

-- where the parts have a table, the tables of the image are those of what is listed
tables_are :
    (l : Linked) (x : Parts) → AreParts (loaded_of l) x → meaning_views (in_order x.listed) ≡ l.listed → (t : SymbolTable) → table_in x.listed ≡ Some t →
    (ds : List code.Definition) → ds ≡ in_order x.listed →
    tables (own_where x.placement.base x.placement.objects) t.start (entered x.placement.objects (meaning_views ds)) ≡ tables_in l
tables_are l x made listed t is ds ds_are =
    by l.plan.strip refl
    (subst (HasTable l.objects (own_end l.plan.base l.objects) (meaning_views (in_order x.listed)) l.plan.strip) is made.tabled)
  where
    by :
        (b : Bool) → l.plan.strip ≡ b → HasTable l.objects (own_end l.plan.base l.objects) (meaning_views (in_order x.listed)) b (Some t) →
        tables (own_where x.placement.base x.placement.objects) t.start (entered x.placement.objects (meaning_views ds)) ≡ tables_in l
    by true stripped has = absurd has
    by false kept has =
        (λ i. tables (own_where (made.placed i).base (made.placed i).objects) (has.start i)
        (entered (made.placed i).objects ((ap meaning_views ds_are ∙ listed) i)))
        ∙ ap (λ (b : Bool). own_tables l.plan.base l.objects (table_of b l.objects l.listed)) (sym kept)

-- without one there are none
no_tables : (l : Linked) (x : Parts) → AreParts (loaded_of l) x → table_in x.listed ≡ None → tables_in l ≡ []
no_tables l x made is =
    by l.plan.strip refl
    (subst (HasTable l.objects (own_end l.plan.base l.objects) (meaning_views (in_order x.listed)) l.plan.strip) is made.tabled)
  where
    by :
        (b : Bool) → l.plan.strip ≡ b → HasTable l.objects (own_end l.plan.base l.objects) (meaning_views (in_order x.listed)) b None → tables_in l ≡ []
    by true stripped has = ap (λ (b : Bool). own_tables l.plan.base l.objects (table_of b l.objects l.listed)) stripped
    by false kept has = absurd has

pub put_tables-requires-clause-names : goal.put_tables-requires-clause-names
put_tables-requires-clause-names g c =
    let made = c.parts-parts.ensures.parts in
    record {
      objects =
          ap (λ (b : Basis). b.objects) made.placed
          ∙ sym (c.objects.ensures.exact ∙ ap (λ (l : LoadedPlan). l.objects) c.loaded.ensures);
      kinds = subst (λ (b : Basis). AreLawfulKinds b.objects) (sym made.placed) made.kinds;
      within =
          subst (λ (b : Basis). All (λ (m : code.Definition). LiesWithin (own_in_load_order b.base b.objects) (meaning_view m)) c.in_order.result.now)
          (sym made.placed)
          (subst (λ (ds : List code.Definition).
          All (λ (m : code.Definition). LiesWithin (own_in_load_order c.args.linkage.now.plan.base c.args.linkage.now.objects) (meaning_view m)) ds)
          (sym c.in_order.ensures) made.within);
    }

pub returns-in-Some : goal.returns-in-Some
returns-in-Some g c =
    let e = c.parts-parts.ensures in
    puts_are _ _ _ _ _
    (tables_are c.args.linkage.now c.parts-parts.result.now e.parts e.listed c.in-Some.table (sym c.table.ensures ∙ c.in-Some.is) c.in_order.result.now c.in_order.ensures)
    c.put_tables.ensures

pub returns-in-None : goal.returns-in-None
returns-in-None g c =
    let e = c.parts-parts.ensures in
    puts_are _ _ [] _ _ (sym (no_tables c.args.linkage.now c.parts-parts.result.now e.parts (sym c.table.ensures ∙ c.in-None.is)))
    (record { grows = grows_nothing _; breaks = tt })
