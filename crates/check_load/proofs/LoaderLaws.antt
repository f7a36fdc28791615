-- What a loader knows, with nothing loaded and with one object more.
use Rattle.std.proofs.Common.{◌≡◌, ℕ, ◌==◌, Bool, true, false, ◌&&◌, ◌||◌, not, List, [], ◌∷◌, ◌++◌, refl, sym, ◌∙◌, ap, subst}
use Rattle.std.specs.List.{list_any}
use Rattle.std.specs.Str.{bytes_eq}
use Rattle.std.proofs.lemmas.Bool.{and_from, and_parts, eq-eqb, eqb-true, not-true, or_parts}
use Rattle.std.proofs.lemmas.List.{map-append}
use Rattle.std.proofs.lemmas.List.Elements.{All-nil, All-push}
use Rattle.std.proofs.lemmas.List.Folds.{list_any-append}
use Rattle.elf_model.specs.Inputs.Command.{Plan}
use Rattle.elf_model.specs.Link.Groups.{AreLawfulGroups, dropped, is_seen, seen_after}
use Rattle.elf_model.specs.Link.Loading.{LoadedObject, is_begun, is_defined, is_requested, is_taken, lost_sections, object_behind, requests, defines, seen_behind, with_object}
use Rattle.elf_model.specs.Inputs.ObjectFile.{IsObject, groups}
use Rattle.elf_model.specs.Inputs.Opening.{Opened}
use Rattle.elf_model.specs.Inputs.ArchiveFile.{IndexEntry}
use Rattle.elf_model.proofs.LoadingBounds.{by_case}
use Rattle.elf_model.proofs.SameOutput.{both_ways_equal}
use Rattle.check_load.specs.Awake.{is_awake}
use Rattle.check_load.specs.Loaders.{AreLoadable, IsLoadable, Knows, is_free, loaded}
use Rattle.check_load.specs.Places.{AreWokenSince, none_asked}
use Rattle.check_load.specs.Names.{Names, asked_from, asked_in, defined_from, defined_in, defines_name, requests_name}
use Rattle.check_load.specs.Signatures.{lost_by, seen_by}
use Rattle.check_load.specs.Numbered.{AreNumbered}
use Rattle.check_load.specs.NameNumbers.{is_among}
use Rattle.check_load.specs.Stops.{Refutes}
use Rattle.check_load.specs.Taken.{has_item, has_member}
use Rattle.check_load.specs.Views.{loaded_view, loaded_views}
use Rattle.check_load.specs.declared.loaded.Loaded.{Loaded}
use Rattle.check_load.specs.declared.loader.Loader.{Loader}
use Rattle.check_load.specs.declared.stops.Stop.{Stop}
use Rattle.check_load.specs.declared.taken_members.Taken.{Taken}
use Rattle.check_load.specs.declared.stops.Stop.TheVariants as stop
use Rattle.check_load.proofs.SignatureLaws.{list_by, lost_is, or_last}

-- The signatures that are seen.
pub seen_more : (seen : List (List ℕ)) (os : List LoadedObject) (x : LoadedObject) → seen_behind seen (os ++ x ∷ []) ≡ seen_after (seen_behind seen os) (groups x.bytes)
seen_more seen [] x = refl
seen_more seen (o ∷ os) x = seen_more (seen_after seen (groups o.bytes)) os x

-- Names.
or_first : (r l q : Bool) → (r || (l || (q || false))) ≡ (q || (r || l))
or_first true l true = refl
or_first true l false = refl
or_first false true true = refl
or_first false true false = refl
or_first false false true = refl
or_first false false false = refl

pub requested_more : (plan : Plan) (os : List LoadedObject) (x : LoadedObject) (n : List ℕ) → is_requested plan (os ++ x ∷ []) n ≡ (asked_in x.bytes x.dropped n || is_requested plan os n)
unfolding is_requested requests asked_from
requested_more plan os x n =
    ap (λ (b : Bool). list_any (λ root. bytes_eq root n) (plan.entry ∷ plan.undefined) || b) (list_any-append (requests n) os (x ∷ []))
    ∙ or_first (list_any (λ root. bytes_eq root n) (plan.entry ∷ plan.undefined)) (list_any (requests n) os) (requests n x)

pub requested_none : (plan : Plan) (n : List ℕ) → is_requested plan [] n ≡ list_any (λ root. bytes_eq root n) (plan.entry ∷ plan.undefined)
unfolding is_requested
requested_none plan n = or_none (list_any (λ root. bytes_eq root n) (plan.entry ∷ plan.undefined))
  where
    or_none : (b : Bool) → (b || false) ≡ b
    or_none true = refl
    or_none false = refl

pub defined_one_more : (os : List LoadedObject) (x : LoadedObject) (n : List ℕ) → is_defined (os ++ x ∷ []) n ≡ (defined_in x.bytes x.dropped n || is_defined os n)
unfolding is_defined defines defined_from
defined_one_more os x n = list_any-append (defines n) os (x ∷ []) ∙ or_last (list_any (defines n) os) (defines n x)

-- Members.
pub same_number : (a b : ℕ) → (a == b) ≡ (b == a)
same_number a b = both_ways_equal (a == b) (b == a) (λ e. eq-eqb b a (sym (eqb-true a b e))) (λ e. eq-eqb a b (sym (eqb-true b a e)))

or_turned : (t old : Bool) → (t || old) ≡ (old || (t || false))
or_turned true true = refl
or_turned true false = refl
or_turned false true = refl
or_turned false false = refl

pub is_taken_more : (os : List LoadedObject) (x : LoadedObject) (i k : ℕ) → is_taken (os ++ x ∷ []) i k ≡ (is_taken os i k || ((x.item == i && x.offset == k) || false))
unfolding is_taken
is_taken_more os x i k = list_any-append (λ y. y.item == i && y.offset == k) os (x ∷ [])

pub is_begun_more : (os : List LoadedObject) (x : LoadedObject) (i : ℕ) → is_begun (os ++ x ∷ []) i ≡ (is_begun os i || ((x.item == i) || false))
unfolding is_begun
is_begun_more os x i = list_any-append (λ y. y.item == i) os (x ∷ [])

-- A loader.
none_seen : (names : List (List ℕ)) → names ≡ [] → (n : List ℕ) → is_among names n ≡ false
none_seen names none n = ap (λ (l : List (List ℕ)). is_among l n) none

-- an entry that gives a member later gave it before where its name was asked for then
free_before :
    (old new : Names) (was now : Taken) (item : ℕ) (e : IndexEntry) (d t : Bool) → defines_name new e.name ≡ (d || defines_name old e.name) →
    has_member now item e.offset ≡ (t || has_member was item e.offset) → requests_name old e.name ≡ true → is_free new now item e ≡ true → is_free old was item e ≡ true
free_before old new was now item e d t defined_ taken_ asked_ free =
    let parts = and_parts (requests_name new e.name && not (defines_name new e.name)) (not (has_member now item e.offset)) free in
    let undefined_ = not-true (defines_name new e.name) (and_parts (requests_name new e.name) (not (defines_name new e.name)) parts.0).1 in
    let untaken = not-true (has_member now item e.offset) parts.1 in
    and_from (requests_name old e.name && not (defines_name old e.name)) (not (has_member was item e.offset))
    (and_from (requests_name old e.name) (not (defines_name old e.name)) asked_ (ap not (or_parts d (defines_name old e.name) (sym defined_ ∙ undefined_)).1))
    (ap not (or_parts t (has_member was item e.offset) (sym taken_ ∙ untaken)).1)

free_asked : (names : Names) (taken : Taken) (item : ℕ) (e : IndexEntry) → is_free names taken item e ≡ true → requests_name names e.name ≡ true
free_asked names taken item e free =
    (and_parts (requests_name names e.name) (not (defines_name names e.name))
    (and_parts (requests_name names e.name && not (defines_name names e.name)) (not (has_member taken item e.offset)) free).0).0

pub knows_none :
    (os : List Opened) (l : Loader) → AreWokenSince os none_asked l.names l.awake → loaded l ≡ [] → l.seen ≡ [] →
    ((n : List ℕ) → requests_name l.names n ≡ list_any (λ root. bytes_eq root n) (l.plan.now.entry ∷ l.plan.now.undefined)) →
    ((n : List ℕ) → defines_name l.names n ≡ false) → ((item offset : ℕ) → has_member l.taken item offset ≡ false) →
    ((item : ℕ) → has_item l.taken item ≡ false) → AreNumbered l.names.names l.objects.items → Knows os l
unfolding is_defined is_taken is_begun
knows_none os l woken_ none seen_ asked_ defined_ taken_ begun_ numbered_ = record {
  numbered = numbered_;
  seen = (λ j n. none_seen l.seen seen_ n j) ∙ ap (λ (os : List LoadedObject). is_seen (seen_behind [] os)) (sym none);
  requested = λ n. asked_ n ∙ (sym (requested_none l.plan.now n) ∙ ap (λ (os : List LoadedObject). is_requested l.plan.now os n) (sym none));
  defined = λ n. defined_ n ∙ ap (λ (os : List LoadedObject). is_defined os n) (sym none);
  taken = λ item offset. taken_ item offset ∙ ap (λ (os : List LoadedObject). is_taken os item offset) (sym none);
  begun = λ item. begun_ item ∙ ap (λ (os : List LoadedObject). is_begun os item) (sym none);
  loadable = subst AreLoadable (sym none) (record { objects_are = All-nil (λ o. IsObject o.bytes); lawful = All-nil (λ o. AreLawfulGroups (groups o.bytes)) });
  awake = λ o at archive searched q e there free. woken_ o q e at (record { archive = archive; searched = searched; there = there }) refl (free_asked l.names l.taken o.number e free);
}

pub knows_more :
    (os : List Opened) (old new : Loader) (o : Opened) (offset : ℕ) (bytes : List ℕ) → Knows os old → AreWokenSince os (requests_name old.names) new.names new.awake →
    ((i q : ℕ) → is_awake old.awake i q ≡ true → is_awake new.awake i q ≡ true) → new.plan.now ≡ old.plan.now →
    loaded new ≡ with_object (loaded old) o offset bytes → is_among new.seen ≡ seen_by (is_among old.seen) (groups bytes) →
    ((n : List ℕ) → requests_name new.names n ≡ (asked_in bytes (lost_sections (loaded old) bytes) n || requests_name old.names n)) →
    ((n : List ℕ) → defines_name new.names n ≡ (defined_in bytes (lost_sections (loaded old) bytes) n || defines_name old.names n)) →
    ((i k : ℕ) → has_member new.taken i k ≡ (o.number == i && offset == k || has_member old.taken i k)) →
    ((i : ℕ) → has_item new.taken i ≡ (o.number == i || has_item old.taken i)) → IsObject bytes → AreLawfulGroups (groups bytes) →
    AreNumbered new.names.names new.objects.items → Knows os new
knows_more os old new o offset bytes k woken_ stays plan_ is seen_ asked_ defined_ taken_ begun_ object lawful_ numbered_ = record {
  numbered = numbered_;
  seen =
      seen_ ∙ (ap (λ (f : List ℕ → Bool). seen_by f (groups bytes)) k.seen
      ∙ (list_by (seen_behind [] (loaded old)) (groups bytes)
      ∙ (ap is_seen (sym (seen_more [] (loaded old) x)) ∙ ap (λ (os : List LoadedObject). is_seen (seen_behind [] os)) (sym is))));
  requested = λ n.
      asked_ n ∙ (ap (λ (b : Bool). asked_in bytes x.dropped n || b) (k.requested n)
      ∙ (sym (requested_more old.plan.now (loaded old) x n)
      ∙ (ap (λ (os : List LoadedObject). is_requested old.plan.now os n) (sym is) ∙ ap (λ (p : Plan). is_requested p (loaded new) n) (sym plan_))));
  defined = λ n.
      defined_ n ∙ (ap (λ (b : Bool). defined_in bytes x.dropped n || b) (k.defined n)
      ∙ (sym (defined_one_more (loaded old) x n) ∙ ap (λ (os : List LoadedObject). is_defined os n) (sym is)));
  taken = λ item at.
      taken_ item at
      ∙ (ap (λ (b : Bool). o.number == item && offset == at || b) (k.taken item at)
      ∙ (or_turned (o.number == item && offset == at) (is_taken (loaded old) item at)
      ∙ (sym (is_taken_more (loaded old) x item at) ∙ ap (λ (os : List LoadedObject). is_taken os item at) (sym is))));
  begun = λ item.
      begun_ item
      ∙ (ap (λ (b : Bool). o.number == item || b) (k.begun item)
      ∙ (or_turned (o.number == item) (is_begun (loaded old) item)
      ∙ (sym (is_begun_more (loaded old) x item) ∙ ap (λ (os : List LoadedObject). is_begun os item) (sym is))));
  loadable = subst AreLoadable (sym is) (record {
    objects_are = All-push (λ y. IsObject y.bytes) (loaded old) x k.loadable.objects_are object;
    lawful = All-push (λ y. AreLawfulGroups (groups y.bytes)) (loaded old) x k.loadable.lawful lawful_;
  });
  awake = λ p at archive searched q e there free.
      by_case (requests_name old.names e.name)
      (λ asked_before.
      stays p.number q
      (k.awake p at archive searched q e there
      (free_before old.names new.names old.taken new.taken p.number e (defined_in bytes (lost_sections (loaded old) bytes) e.name) (o.number == p.number && offset == e.offset)
      (defined_ e.name) (taken_ p.number e.offset) asked_before free)))
      (λ fresh. woken_ p q e at (record { archive = archive; searched = searched; there = there }) fresh (free_asked new.names new.taken p.number e free));
}
  where
    x : LoadedObject
    x = object_behind (loaded old) o offset bytes

-- An object whose groups aren't lawful.
pub groups_stop : (bytes object : List ℕ) (e : Stop) → object ≡ bytes → Refutes (AreLawfulGroups (groups object)) e → Refutes (IsLoadable bytes) e
groups_stop bytes object stop.Memory same s = tt
groups_stop bytes object stop.Unlawful same s = λ all. s (subst (λ (b : List ℕ). AreLawfulGroups (groups b)) (sym same) all.lawful)

-- An object that is pushed.
pub pushed :
    (ls new : List Loaded) (x : Loaded) (os : List LoadedObject) (o : Opened) (offset : ℕ) (bytes : List ℕ) → loaded_views ls ≡ os → new ≡ ls ++ x ∷ [] →
    loaded_view x ≡ object_behind os o offset bytes → loaded_views new ≡ with_object os o offset bytes
pushed ls new x os o offset bytes old is one =
    ap (λ (l : List Loaded). loaded_views l) is
    ∙ (map-append loaded_view ls (x ∷ []) ∙ (ap (λ (l : List LoadedObject). l ++ loaded_view x ∷ []) old ∙ ap (λ (y : LoadedObject). os ++ y ∷ []) one))

-- The sections that are dropped behind what is loaded.
pub lost : (os : List LoadedObject) (seen : List ℕ → Bool) (bytes object : List ℕ) (d : List ℕ) → seen ≡ is_seen (seen_behind [] os) → object ≡ bytes →
    d ≡ lost_by seen (groups object) → d ≡ lost_sections os bytes
unfolding lost_sections
lost os seen bytes object d same is dropped_ =
    dropped_ ∙ (ap (λ (f : List ℕ → Bool). lost_by f (groups object)) same
    ∙ (lost_is (seen_behind [] os) (groups object) ∙ ap (λ (b : List ℕ). dropped (seen_behind [] os) (groups b)) is))

pub object_is : (os : List LoadedObject) (o : Opened) (offset : ℕ) (bytes object d : List ℕ) → object ≡ bytes → d ≡ lost_sections os bytes →
    record { bytes = object; item = o.number; offset = offset; path = o.path; dropped = d } ≡ object_behind os o offset bytes
object_is os o offset bytes object d is dropped_ =
    ap (λ (b : List ℕ). made b d) is ∙ ap (λ (ks : List ℕ). made bytes ks) dropped_
  where
    made : List ℕ → List ℕ → LoadedObject
    made b ks = record { bytes = b; item = o.number; offset = offset; path = o.path; dropped = ks }
