-- What a loader knows, with nothing loaded and with one object more.
use Rattle.std.proofs.Common.{◌≡◌, ℕ, suc, ◌+◌, ◌<◌, ◌==◌, length, get_or, drop, drop-cons, arith, Bool, true, false, cond, ◌&&◌, ◌||◌, List, [], ◌∷◌, ◌++◌, map, refl, sym, ◌∙◌, ap, subst}
use Rattle.std.specs.Prelude.{All}
use Rattle.std.specs.Borrow.{Bor}
use Rattle.std.specs.List.{list_any}
use Rattle.std.specs.Str.{bytes_eq}
use Rattle.std.proofs.lemmas.Bool.{and_parts, eq-eqb, eqb-true}
use Rattle.std.proofs.lemmas.List.{map-append}
use Rattle.std.proofs.lemmas.List.Elements.{All-nil, All-push}
use Rattle.std.proofs.lemmas.List.Folds.{list_any-append}
use Rattle.elf_model.specs.Inputs.Command.{Plan}
use Rattle.elf_model.specs.Link.Groups.{AreLawfulGroups, dropped, seen_after}
use Rattle.elf_model.specs.Link.Loading.{LoadedObject, is_begun, is_defined, is_requested, is_taken, lost_sections, object_behind, requests, defines, seen_behind, with_object}
use Rattle.elf_model.specs.Inputs.ObjectFile.{IsObject, groups}
use Rattle.elf_model.specs.Inputs.Opening.{Opened}
use Rattle.elf_model.proofs.LoadingBounds.{by_case}
use Rattle.elf_model.proofs.SameOutput.{both_ways_equal}
use Rattle.search.specs.Loaders.{Knows, asked_from, asked_in, defined_from, defined_in, loaded}
use Rattle.search.specs.Mentions.{AreNoted, has_definition}
use Rattle.search.specs.Names.{is_among}
use Rattle.search.specs.Numbers.{AreNumbered, IsNumbered}
use Rattle.search.specs.Taken.{TakenMembers, has_item, has_member, with_member_taken}
use Rattle.search.specs.Views.{loaded_view, loaded_views}
use Rattle.search.specs.declared.loaded.LoadedObject as code
use Rattle.search.proofs.NotedNames.{stepped}
use Rattle.search.specs.declared.loader.Loader.{Loader}

-- The signatures that are seen.
pub seen_more : (seen : List (List ℕ)) (os : List LoadedObject) (x : LoadedObject) → seen_behind seen (os ++ x ∷ []) ≡ seen_after (seen_behind seen os) (groups x.bytes)
seen_more seen [] x = refl
seen_more seen (o ∷ os) x = seen_more (seen_after seen (groups o.bytes)) os x

-- Names.
or_first : (r l q : Bool) → (r || (l || (q || false))) ≡ (q || (r || l))
or_first true l true = refl
or_first true l false = refl
or_first false true true = refl
or_first false true false = refl
or_first false false true = refl
or_first false false false = refl

or_last : (l q : Bool) → (l || (q || false)) ≡ (q || l)
or_last true true = refl
or_last true false = refl
or_last false true = refl
or_last false false = refl

pub requested_more : (plan : Plan) (os : List LoadedObject) (x : LoadedObject) (n : List ℕ) → is_requested plan (os ++ x ∷ []) n ≡ (asked_in x.bytes x.dropped n || is_requested plan os n)
unfolding is_requested requests asked_from
requested_more plan os x n =
    ap (λ (b : Bool). list_any (λ root. bytes_eq root n) (plan.entry ∷ plan.undefined) || b) (list_any-append (requests n) os (x ∷ []))
    ∙ or_first (list_any (λ root. bytes_eq root n) (plan.entry ∷ plan.undefined)) (list_any (requests n) os) (requests n x)

pub requested_none : (plan : Plan) (n : List ℕ) → is_requested plan [] n ≡ list_any (λ root. bytes_eq root n) (plan.entry ∷ plan.undefined)
unfolding is_requested
requested_none plan n = or_none (list_any (λ root. bytes_eq root n) (plan.entry ∷ plan.undefined))
  where
    or_none : (b : Bool) → (b || false) ≡ b
    or_none true = refl
    or_none false = refl

pub defined_one_more : (os : List LoadedObject) (x : LoadedObject) (n : List ℕ) → is_defined (os ++ x ∷ []) n ≡ (defined_in x.bytes x.dropped n || is_defined os n)
unfolding is_defined defines defined_from
defined_one_more os x n = list_any-append (defines n) os (x ∷ []) ∙ or_last (list_any (defines n) os) (defines n x)

-- Members.
known_or : (a b : Bool) → (a ≡ true → b ≡ true) → b ≡ (b || (a || false))
known_or a true f = refl
known_or true false f = sym (sym (f refl))
known_or false false f = refl

pub same_number : (a b : ℕ) → (a == b) ≡ (b == a)
same_number a b = both_ways_equal (a == b) (b == a) (λ e. eq-eqb b a (sym (eqb-true a b e))) (λ e. eq-eqb a b (sym (eqb-true b a e)))

pub begun_more : (t : TakenMembers) (item offset i : ℕ) → has_item (with_member_taken t item offset) i ≡ (has_item t i || ((item == i) || false))
begun_more t item offset i = by_case (has_item t item) there new
  where
    there : has_item t item ≡ true → has_item (with_member_taken t item offset) i ≡ (has_item t i || ((item == i) || false))
    there known =
        ap (λ (b : Bool). list_any (λ j. i == j) (cond b t.items (t.items ++ item ∷ []))) known
        ∙ known_or (item == i) (has_item t i) (λ e. subst (λ (j : ℕ). has_item t j ≡ true) (eqb-true item i e) known)

    new : has_item t item ≡ false → has_item (with_member_taken t item offset) i ≡ (has_item t i || ((item == i) || false))
    new known =
        ap (λ (b : Bool). list_any (λ j. i == j) (cond b t.items (t.items ++ item ∷ []))) known
        ∙ (list_any-append (λ j. i == j) t.items (item ∷ []) ∙ ap (λ (b : Bool). has_item t i || (b || false)) (same_number i item))

pub taken_more : (t : TakenMembers) (item offset i k : ℕ) → has_member (with_member_taken t item offset) i k ≡ (has_member t i k || ((item == i && offset == k) || false))
taken_more t item offset i k = by_case (has_member t item offset) there new
  where
    there : has_member t item offset ≡ true → has_member (with_member_taken t item offset) i k ≡ (has_member t i k || ((item == i && offset == k) || false))
    there known =
        ap (λ (b : Bool). list_any (λ m. i == m.0 && k == m.1) (cond b t.members (t.members ++ (item, offset) ∷ []))) known
        ∙ known_or (item == i && offset == k) (has_member t i k)
        (λ e.
        let both = and_parts (item == i) (offset == k) e in
        subst (λ (j : ℕ). has_member t j k ≡ true) (eqb-true item i both.0)
        (subst (λ (j : ℕ). has_member t item j ≡ true) (eqb-true offset k both.1) known))

    new : has_member t item offset ≡ false → has_member (with_member_taken t item offset) i k ≡ (has_member t i k || ((item == i && offset == k) || false))
    new known =
        ap (λ (b : Bool). list_any (λ m. i == m.0 && k == m.1) (cond b t.members (t.members ++ (item, offset) ∷ []))) known
        ∙ (list_any-append (λ m. i == m.0 && k == m.1) t.members ((item, offset) ∷ [])
        ∙ ap (λ (b : Bool). has_member t i k || (b || false))
        (ap (λ (b : Bool). b && k == offset) (same_number i item) ∙ ap (λ (b : Bool). item == i && b) (same_number k offset)))

pub is_taken_more : (os : List LoadedObject) (x : LoadedObject) (i k : ℕ) → is_taken (os ++ x ∷ []) i k ≡ (is_taken os i k || ((x.item == i && x.offset == k) || false))
unfolding is_taken
is_taken_more os x i k = list_any-append (λ y. y.item == i && y.offset == k) os (x ∷ [])

pub is_begun_more : (os : List LoadedObject) (x : LoadedObject) (i : ℕ) → is_begun (os ++ x ∷ []) i ≡ (is_begun os i || ((x.item == i) || false))
unfolding is_begun
is_begun_more os x i = list_any-append (λ y. y.item == i) os (x ∷ [])

-- A loader.
pub knows_none :
    {N : Type 0} (names : N → List (List ℕ)) (l : Loader N) → loaded l ≡ [] → l.groups ≡ [] →
    ((n : List ℕ) → is_among l.names.requested n ≡ list_any (λ root. bytes_eq root n) (l.plan.now.entry ∷ l.plan.now.undefined)) →
    AreNoted names l.names → ((n : List ℕ) → has_definition names l.names n ≡ false) → l.objects.items ≡ [] → l.taken ≡ record { members = []; items = [] } → Knows names l
unfolding is_defined is_taken is_begun
knows_none names l none groups_ asked_ noted_ defined_ empty taken_ = record {
  seen = groups_ ∙ ap (seen_behind []) (sym none);
  requested = λ n. asked_ n ∙ (sym (requested_none l.plan.now n) ∙ ap (λ (os : List LoadedObject). is_requested l.plan.now os n) (sym none));
  noted = noted_;
  defined = λ n. defined_ n ∙ ap (λ (os : List LoadedObject). is_defined os n) (sym none);
  numbered = subst (λ (ls : List code.LoadedObject). AreNumbered (names l.names.numbers) ls) (sym empty) (All-nil (IsNumbered (names l.names.numbers)));
  taken = λ item offset. ap (λ (t : TakenMembers). has_member t item offset) taken_ ∙ ap (λ (os : List LoadedObject). is_taken os item offset) (sym none);
  begun = λ item. ap (λ (t : TakenMembers). has_item t item) taken_ ∙ ap (λ (os : List LoadedObject). is_begun os item) (sym none);
  objects = subst (All (λ o. IsObject o.bytes)) (sym none) (All-nil (λ o. IsObject o.bytes));
  lawful = subst (All (λ o. AreLawfulGroups (groups o.bytes))) (sym none) (All-nil (λ o. AreLawfulGroups (groups o.bytes)));
}

pub knows_more :
    {N : Type 0} (names : N → List (List ℕ)) (old new : Loader N) (o : Opened) (offset : ℕ) (bytes : List ℕ) → Knows names old → new.plan.now ≡ old.plan.now →
    loaded new ≡ with_object (loaded old) o offset bytes → new.groups ≡ seen_after old.groups (groups bytes) →
    ((n : List ℕ) → is_among new.names.requested n ≡ (asked_in bytes (lost_sections (loaded old) bytes) n || is_among old.names.requested n)) →
    AreNoted names new.names →
    ((n : List ℕ) → has_definition names new.names n ≡ (defined_in bytes (lost_sections (loaded old) bytes) n || has_definition names old.names n)) →
    AreNumbered (names new.names.numbers) new.objects.items →
    new.taken ≡ with_member_taken old.taken o.number offset → IsObject bytes → AreLawfulGroups (groups bytes) → Knows names new
knows_more names old new o offset bytes k plan_ is groups_ asked_ noted_ defined_ numbered_ taken_ object lawful_ = record {
  seen =
      groups_ ∙ (ap (λ (s : List (List ℕ)). seen_after s (groups bytes)) k.seen
      ∙ (sym (seen_more [] (loaded old) x) ∙ ap (seen_behind []) (sym is)));
  requested = λ n.
      asked_ n ∙ (ap (λ (b : Bool). asked_in bytes x.dropped n || b) (k.requested n)
      ∙ (sym (requested_more old.plan.now (loaded old) x n)
      ∙ (ap (λ (os : List LoadedObject). is_requested old.plan.now os n) (sym is) ∙ ap (λ (p : Plan). is_requested p (loaded new) n) (sym plan_))));
  noted = noted_;
  numbered = numbered_;
  defined = λ n.
      defined_ n ∙ (ap (λ (b : Bool). defined_in bytes x.dropped n || b) (k.defined n)
      ∙ (sym (defined_one_more (loaded old) x n) ∙ ap (λ (os : List LoadedObject). is_defined os n) (sym is)));
  taken = λ item at.
      ap (λ (t : TakenMembers). has_member t item at) taken_
      ∙ (taken_more old.taken o.number offset item at
      ∙ (ap (λ (b : Bool). b || ((o.number == item && offset == at) || false)) (k.taken item at)
      ∙ (sym (is_taken_more (loaded old) x item at) ∙ ap (λ (os : List LoadedObject). is_taken os item at) (sym is))));
  begun = λ item.
      ap (λ (t : TakenMembers). has_item t item) taken_
      ∙ (begun_more old.taken o.number offset item
      ∙ (ap (λ (b : Bool). b || ((o.number == item) || false)) (k.begun item)
      ∙ (sym (is_begun_more (loaded old) x item) ∙ ap (λ (os : List LoadedObject). is_begun os item) (sym is))));
  objects = subst (All (λ y. IsObject y.bytes)) (sym is) (All-push (λ y. IsObject y.bytes) (loaded old) x k.objects object);
  lawful =
      subst (All (λ y. AreLawfulGroups (groups y.bytes))) (sym is)
      (All-push (λ y. AreLawfulGroups (groups y.bytes)) (loaded old) x k.lawful lawful_);
}
  where
    x : LoadedObject
    x = object_behind (loaded old) o offset bytes

-- the names that a command asks for, one after the other
pub roots_step : (us : List (Bor (List ℕ))) (j : ℕ) (d : Bor (List ℕ)) (n : List ℕ) (old new : List (List ℕ)) (total : Bool) → j < length us →
    ((m : List ℕ) → is_among new m ≡ (bytes_eq (get_or us j d).now m || is_among old m)) →
    (list_any (λ root. bytes_eq root n) (map (λ t. t.now) (drop j us)) || is_among old n) ≡ total →
    (list_any (λ root. bytes_eq root n) (map (λ t. t.now) (drop (j + 1) us)) || is_among new n) ≡ total
roots_step us j d n old new total within next is =
    stepped (list_any test (map (λ t. t.now) (drop j us))) (bytes_eq (get_or us j d).now n) (list_any test (map (λ t. t.now) (drop (j + 1) us)))
    (is_among old n) (is_among new n) total split (next n) is
  where
    test : List ℕ → Bool
    test root = bytes_eq root n

    split : list_any test (map (λ t. t.now) (drop j us)) ≡ (bytes_eq (get_or us j d).now n || list_any test (map (λ t. t.now) (drop (j + 1) us)))
    split = let e : j + 1 ≡ suc j = omega arith in rw e (ap (λ (l : List (Bor (List ℕ))). list_any test (map (λ t. t.now) l)) (drop-cons us j d within))

-- An object that is pushed.
pub pushed :
    (ls new : List code.LoadedObject) (x : code.LoadedObject) (os : List LoadedObject) (o : Opened) (offset : ℕ) (bytes : List ℕ) → loaded_views ls ≡ os → new ≡ ls ++ x ∷ [] →
    loaded_view x ≡ object_behind os o offset bytes → loaded_views new ≡ with_object os o offset bytes
pushed ls new x os o offset bytes old is one =
    ap (λ (l : List code.LoadedObject). loaded_views l) is
    ∙ (map-append loaded_view ls (x ∷ []) ∙ (ap (λ (l : List LoadedObject). l ++ loaded_view x ∷ []) old ∙ ap (λ (y : LoadedObject). os ++ y ∷ []) one))

-- The sections that are dropped behind what is loaded.
pub lost : (os : List LoadedObject) (seen : List (List ℕ)) (bytes object : List ℕ) (d : List ℕ) → seen ≡ seen_behind [] os → object ≡ bytes →
    d ≡ dropped seen (groups object) → d ≡ lost_sections os bytes
unfolding lost_sections
lost os seen bytes object d same is dropped_ =
    dropped_ ∙ (ap (λ (s : List (List ℕ)). dropped s (groups object)) same ∙ ap (λ (b : List ℕ). dropped (seen_behind [] os) (groups b)) is)

pub object_is : (os : List LoadedObject) (o : Opened) (offset : ℕ) (bytes object d : List ℕ) → object ≡ bytes → d ≡ lost_sections os bytes →
    record { bytes = object; item = o.number; offset = offset; path = o.path; dropped = d } ≡ object_behind os o offset bytes
object_is os o offset bytes object d is dropped_ =
    ap (λ (b : List ℕ). made b d) is ∙ ap (λ (ks : List ℕ). made bytes ks) dropped_
  where
    made : List ℕ → List ℕ → LoadedObject
    made b ks = record { bytes = b; item = o.number; offset = offset; path = o.path; dropped = ks }
