-- From what linking the loaded objects makes to a right link, and from its refusals to causes.
use Rattle.std.proofs.Common.{◌≡◌, ℕ, ◌<◌, ◌^◌, inr, Bool, true, false, List, [], refl, sym, ◌∙◌, ap, subst}
use Rattle.std.specs.Prelude.{IfOk, None, Ok, Err, Result}
use Rattle.elf_model.specs.Own.Causes.{Cause, HasArchives, HasObjects, IsLaidOut, IsLinkable, IsReferred, IsResolved, Reaches}
use Rattle.elf_model.specs.Inputs.Command.{Plan, command_of}
use Rattle.elf_model.specs.Inputs.Files.{File}
use Rattle.elf_model.specs.Own.ImageFile.{IsOwnMap, image_file, own_end, own_entry, own_tabled}
use Rattle.elf_model.specs.Link.Loading.{AreObjects, HaveLawfulGroups, LoadedObject, loaded_objects}
use Rattle.elf_model.specs.Image.MapRecord.{MapRecord}
use Rattle.elf_model.specs.Image.MapText as map_text
use Rattle.elf_model.specs.Inputs.Opening.{AreArchives, AreFilesThere, HaveIndexes, opened}
use Rattle.elf_model.specs.Own.OwnAddresses.{AreOwnAddresses}
use Rattle.elf_model.specs.Link.Pieces.{AreLawfulKinds}
use Rattle.elf_model.specs.Image.RightLink.{IsRightLink}
use Rattle.elf_model.specs.declared.faults.LinkError.{LinkError}
use Rattle.elf_model.specs.declared.faults.LinkError.TheVariants as error
use Rattle.elf_model.proofs.OwnRelation.{are_own_addresses}
use Rattle.own_link.proofs.OwnRight.{own_is_right}
use Rattle.relocate.specs.Values.{ValuesFail}
use Rattle.relocate.specs.declared.faults.RelocFault.{RelocFault}
use Rattle.relocate.specs.declared.faults.RelocFault.TheVariants as reloc
use Rattle.opening.specs.Faults.{IsSearchable}
use Rattle.search.specs.Faults.{LoadFails}
use Rattle.search.specs.declared.faults.SearchFault.{SearchFault}
use Rattle.search.specs.declared.faults.SearchFault.TheVariants as search
use Rattle.resolve.specs.Refusals.{ResolvingFails}
use Rattle.resolve.specs.declared.faults.ResolveFault.{ResolveFault}
use Rattle.resolve.specs.declared.faults.ResolveFault.TheVariants as resolve
use Rattle.layout.specs.Placements.{Basis}
use Rattle.resolve.specs.Views.{meaning_views}
use Rattle.image_write.specs.Linkages.{AreParts, Linked, linked_of, own_image}
use Rattle.image_write.specs.Listings.{AreKept, IsListing, in_order, table_in}
use Rattle.image_write.specs.Tables.{HasTable, table_of}
use Rattle.image_write.specs.declared.listed.Listed.{Listed}
use Rattle.image_write.specs.declared.listed.Listed.TheVariants as kept
use Rattle.image_write.specs.declared.linkage.Parts.{Parts}
use Rattle.linker.specs.Linkages.{AreOwnMapsRight, HasOwnLink, IsOwnText, IsPrepared}
use Rattle.image_write.specs.Maps.{IsMapOf, own_record}
use Rattle.linker.specs.Outputs.{AreLaidOut, AreLinkable, AreReferred, AreResolved, IsOwnLink, LinksRefuse}
use Rattle.linker.specs.Refusals.{of_reloc, of_resolve, of_search}
use Rattle.linker.proofs.OwnMaps.{ordered, own_map, own_table_is, symbols_rise}

pub ok_more : {X Y : Type 0} (P Q : X → Type 0) (r : Result X Y) → IfOk r P → ((x : X) → P x → Q x) → IfOk r Q
ok_more P Q (Ok x) is more = more x is
ok_more P Q (Err y) is more = tt

-- archives that can be searched, as a phase of the link
searchable : (files : List File) (words : List (List ℕ)) (p : Plan) → command_of words ≡ Ok p → IsSearchable files p → HasArchives files words p
searchable files words p is s = record { before = record { words_are = is; files_are = s.files_are }; archives = s.archives; indexes = s.indexes }

-- what is reached of which something stands is reached where less stands
later : {P Q : LoadedObject → Type 0} {objects : List LoadedObject} → Reaches objects P → ((o : LoadedObject) → P o → Q o) → Reaches objects Q
later r weaker =
    record { front = r.front; reached = r.reached; rest = r.rest; order = r.order; are_objects = r.are_objects; lawful = r.lawful; stands = weaker r.reached r.stands }

-- why loading fails is why the link does
pub loading_fails :
    (files : List File) (words : List (List ℕ)) (p : Plan) → command_of words ≡ Ok p → (e : SearchFault) → LoadFails files p e →
    Cause files words (of_search e)
loading_fails files words p is search.Memory f = tt
loading_fails files words p is search.FileMissing f = (p, is, f)
loading_fails files words p is (search.BadObject fault) f =
    (p, record { words_are = is; files_are = f.0.files_are }, f.1.stands.0, inr (searchable files words p is f.0, later f.1 (λ o stands. stands.1)))
loading_fails files words p is (search.BadArchive fault) f = (p, record { words_are = is; files_are = f.0 }, f.1, f.2)
loading_fails files words p is search.NoIndex f = (p, record { words_are = is; files_are = f.0 }, f.1)
loading_fails files words p is (search.Group fault) f =
    (p, searchable files words p is f.0, f.1.stands.0, later f.1 (λ o stands. stands.1))

-- why a later phase refuses is why linking the objects does
pub resolving_refuses : (p : Plan) (objects : List LoadedObject) (e : ResolveFault) → ResolvingFails objects e → LinksRefuse p objects (of_resolve e)
resolving_refuses p objects resolve.Memory f = tt
resolving_refuses p objects (resolve.Duplicate name) f = f
resolving_refuses p objects resolve.BadCommon f = f
resolving_refuses p objects resolve.BadSymbol f = f

pub values_refuse :
    (p : Plan) (objects : List LoadedObject) → AreLaidOut p objects → (e : RelocFault) →
    ValuesFail (record { base = p.base; objects = objects }) e → LinksRefuse p objects (of_reloc e)
values_refuse p objects l reloc.Memory f = tt
values_refuse p objects l reloc.Overflow f = (l, f)
values_refuse p objects l _ f = absurd f

-- the own image has the symbol table of an own map's lines
image_by_lines :
    (files : List File) (words : List (List ℕ)) (l : Linked) → IsPrepared files words l →
    (m : MapRecord) → IsOwnMap l.plan.base l.objects l.plan.strip m →
    image_file l.plan.base l.objects (own_entry l.plan.base l.objects l.plan.entry) (own_tabled l.plan.strip l.objects m.symbols) ≡ own_image l
image_by_lines files words l i m own =
    ap (image_file l.plan.base l.objects (own_entry l.plan.base l.objects l.plan.entry)) (by l.plan.strip refl own)
  where
    by :
        (strip : Bool) → l.plan.strip ≡ strip → IsOwnMap l.plan.base l.objects strip m →
        own_tabled l.plan.strip l.objects m.symbols ≡ table_of l.plan.strip l.objects l.listed
    by true stripped own_ =
        ap (λ (b : Bool). own_tabled b l.objects m.symbols) stripped ∙ sym (ap (λ (b : Bool). table_of b l.objects l.listed) stripped)
    by false tabled own_ =
        ap (λ (b : Bool). own_tabled b l.objects m.symbols) tabled
        ∙ (own_table_is l.plan.base l.objects false l.listed (i.listed tabled) (i.rising tabled) m own_
        ∙ sym (ap (λ (b : Bool). table_of b l.objects l.listed) tabled))

-- the bytes of a prepared link: its own image, and the text of its own map
pub own :
    (files : List File) (words : List (List ℕ)) (l : Linked) → IsPrepared files words l → (image text : List ℕ) →
    image ≡ own_image l → IsOwnText l text → IsOwnLink files words image text
own files words l i image text image_is t = record {
  plan = l.plan;
  linkable = i.linkable;
  bytes = record {
    record_of = t.record_of;
    own_map = subst (λ (os : List LoadedObject). IsOwnMap l.plan.base os l.plan.strip t.record_of) i.objects t.own_map;
    is_map = t.is_map;
    spelled = t.spelled;
    image_is =
        image_is
        ∙ (sym (image_by_lines files words l i t.record_of t.own_map)
        ∙ ap (λ (os : List LoadedObject).
        image_file l.plan.base os (own_entry l.plan.base os l.plan.entry) (own_tabled l.plan.strip os t.record_of.symbols)) i.objects);
  };
}

-- with its own image, each own map is a right link
pub own_maps_right : (files : List File) (words : List (List ℕ)) (l : Linked) → IsPrepared files words l → AreOwnMapsRight files words l
own_maps_right files words l i m own is_map =
    let small = subst (λ (os : List LoadedObject). own_entry l.plan.base os l.plan.entry < 2 ^ 64) i.objects i.entry_fits in
    subst (λ (image : List ℕ). IsRightLink files words image (map_text.text m)) (image_by_lines files words l i m own)
    (subst (λ (os : List LoadedObject).
    IsRightLink files words
    (image_file l.plan.base os (own_entry l.plan.base os l.plan.entry) (own_tabled l.plan.strip os m.symbols))
    (map_text.text m)) (sym i.objects)
    (own_is_right files words l.plan m i.linkable i.base small (subst (λ (os : List LoadedObject). IsOwnMap l.plan.base os l.plan.strip m) i.objects own) is_map))

-- its addresses are the linker's own
pub own_addresses : (files : List File) (words : List (List ℕ)) (l : Linked) → IsPrepared files words l → AreOwnAddresses l.plan.base l.objects
own_addresses files words l i = are_own_addresses l.plan.base l.objects (subst AreLawfulKinds (sym i.objects) i.linkable.before.before.before.kinds)

pub right :
    (files : List File) (words : List (List ℕ)) (l : Linked) → IsPrepared files words l → (image text : List ℕ) →
    image ≡ own_image l → IsOwnText l text → IsRightLink files words image text
right files words l i image text image_is t =
    subst (λ (j : List ℕ). IsRightLink files words j text) (sym image_is)
    (subst (λ (u : List ℕ). IsRightLink files words (own_image l) u) (sym t.spelled)
    (own_maps_right files words l i t.record_of t.own_map t.is_map))

module _ (files : List File) (words : List (List ℕ)) (p : Plan) (objects : List LoadedObject) (are : objects ≡ loaded_objects files p) (plan_is : command_of words ≡ Ok p) (there : AreFilesThere files p) (archives : AreArchives (opened files p)) (indexes : HaveIndexes (opened files p)) (good : AreObjects (loaded_objects files p)) (groups : HaveLawfulGroups (loaded_objects files p)) where
  taken : HasObjects files words p
  taken = record {
    before = record { before = record { words_are = plan_is; files_are = there }; archives = archives; indexes = indexes };
    objects = good;
    groups = groups;
  }

  resolved : AreResolved (loaded_objects files p) → IsResolved files words p
  resolved r = record { before = taken; kinds = r.kinds; commons = r.commons; sound = r.sound; unique = r.unique }

  referred : AreReferred p (loaded_objects files p) → IsReferred files words p
  referred r = record { before = resolved r.resolved; relocations = r.relocations; entry = r.entry }

  laid_out : AreLaidOut p (loaded_objects files p) → IsLaidOut files words p
  laid_out l = record { before = referred l.referred; room = l.room }

  linkable : AreLinkable p (loaded_objects files p) → IsLinkable files words p
  linkable l = record { before = laid_out l.laid_out; fits = l.fits }

  -- where there is a table, what is kept is the list
  listing_of :
      (x : Listed) → p.strip ≡ false → AreKept objects x →
      HasTable objects (own_end p.base objects) (meaning_views (in_order x)) p.strip (table_in x) → IsListing objects (in_order x)
  listing_of (kept.InOrder ms t) tabled are_ has = are_
  listing_of (kept.Unlisted r lines) tabled are_ has =
      absurd (subst (λ (b : Bool). HasTable objects (own_end p.base objects) [] b None) tabled has)

  pub prepared : (ns : List (List ℕ)) (x : Parts) → AreLinkable p objects → AreParts (record { plan = p; objects = objects; names = ns }) x → IsPrepared files words (linked_of (record { plan = p; objects = objects; names = ns }) x)
  prepared ns x links made = record {
    objects = are;
    linkable = linkable (subst (AreLinkable p) are links);
    base = made.base;
    listed = λ tabled. (listing_of x.listed tabled made.listed made.tabled).listed;
    rising = λ tabled. symbols_rise (record { base = p.base; objects = objects }) (in_order x.listed) (listing_of x.listed tabled made.listed made.tabled);
    entry_fits = subst (λ (e : ℕ). e < 2 ^ 64) (sym made.entry) made.entry_fits;
  }

  -- the own image and the own map, which can be spelled
  pub right_link : (ns : List (List ℕ)) (x : Parts) → AreLinkable p objects → AreParts (record { plan = p; objects = objects; names = ns }) x →
      HasOwnLink files words (linked_of (record { plan = p; objects = objects; names = ns }) x)
  right_link ns x links made =
      let b : Basis = record { base = p.base; objects = objects } in
      let s = made.spelled in
      let m = own_record b p.strip s.lines in
      let is : IsMapOf b p.strip s.lines m =
      record { version = refl; objects_are = refl; drops = refl; places = refl; commons = refl; got = refl; slots = refl; symbols_are = refl; symtab = refl } in
      let text_is : IsOwnText (linked_of (record { plan = p; objects = objects; names = ns }) x) (map_text.text m) =
      record {
        record_of = m;
        own_map = own_map b p.strip s.lines m is s.listed s.rising;
        is_map = record { fits = s.fits; ordered = ordered b p.strip s.lines m is s.listed s.rising };
        spelled = refl;
      } in
      let r = prepared ns x links made in
      record {
        text = map_text.text m;
        own_text = text_is;
        right = right files words (linked_of (record { plan = p; objects = objects; names = ns }) x) r _ _ refl text_is;
      }

  pub cause : (e : LinkError) → LinksRefuse p objects e → Cause files words e
  cause e refused = of_loaded e (subst (λ (os : List LoadedObject). LinksRefuse p os e) are refused)
    where
      of_loaded : (e : LinkError) → LinksRefuse p (loaded_objects files p) e → Cause files words e
      of_loaded error.Memory r = tt
      of_loaded error.SectionKind r = (p, taken, r)
      of_loaded (error.Duplicate name) r = (p, taken, r)
      of_loaded error.BadCommon r = (p, taken, r)
      of_loaded error.BadSymbol r = (p, taken, r)
      of_loaded (error.Undefined name) r = (p, resolved r.0, r.1)
      of_loaded error.RefToDropped r = (p, resolved r.0, r.1)
      of_loaded error.RelocKind r = (p, resolved r.0, r.1)
      of_loaded error.FieldOutside r = (p, resolved r.0, r.1)
      of_loaded error.OverlappingFields r = (p, resolved r.0, r.1)
      of_loaded error.TlsMismatch r = (p, resolved r.0, r.1)
      of_loaded error.MixedSection r = (p, resolved r.0, r.1)
      of_loaded error.NoEntry r = (p, resolved r.0, r.1)
      of_loaded error.TooLarge r = (p, referred r.0, r.1)
      of_loaded error.Overflow r = (p, laid_out r.0, r.1)
      of_loaded _ r = absurd r
