-- What words say is a command of the profile, spelled in its words, exactly where it is one that is judged.
use Rattle.std.proofs.Common.{◌≡◌, ◌⊎◌, ◌∙◌, ◌++◌, ◌∷◌, ◌==◌, ◌&&◌, ◌||◌, [], ℕ, Bool, List, None, Option, Some, ap, append-nil, append_assoc, arith, false, inl, inr, length, not, refl, subst, sym, true}
use Rattle.std.specs.Prelude.{All}
use Rattle.std.specs.List.{filter_map, last_or, list_any}
use Rattle.std.specs.Option.{unwrap_or}
use Rattle.std.proofs.lemmas.Bool.{and_parts, false≢true}
use Rattle.std.proofs.lemmas.Bool.Decides.{nat_tests}
use Rattle.std.proofs.lemmas.List.Elements.{All-head, All-tail, filter_map-append}
use Rattle.std.proofs.lemmas.Option.{none-some, same_Some}
use Rattle.elf_model.specs.Inputs.Command.{AllFollow, Base, Check, Directory, Entry, GroupEnd, GroupStart, HasPlan, Input, Item, IsPhrases, IsSpelled, Library, MapFile, MayFollow, NoEffect, Output, Path, Phrase, Strip, Undefined, WholeEnd, WholeStart, group_in, is_archive, is_check, is_open, item_behind, items_behind, plan_of_phrases}
use Rattle.judge_model.specs.Plans.{ForeignPlan}
use Rattle.judge_model.specs.Words.{Begins, Collects, ExecutesStack, Feature, IsAsked, Nothing, Profile, Says, Segment, StripsLocal, Tables, TakesFirst, WritesCode, phrases_of, plan_said, said}
use Rattle.foreign_words.specs.Sound.{IsSound, IsSoundPhrase}
use Rattle.foreign_words.specs.Spelled.{are_grouped, has_item, is_command, is_item, is_open_after, may_stand, phrase_words, spelling}

-- The words are the phrases.

spelled : (p : Phrase) → IsSoundPhrase p → IsSpelled (phrase_words p) p
spelled (Output v) s = (refl, s)
spelled (Entry v) s = (refl, s)
spelled (Undefined v) s = (refl, s)
spelled (Directory v) s = inl (refl, s)
spelled (Input (Library v)) s = inl (refl, s)
spelled (Input (Path v)) s = (refl, s.0, s.1)
spelled (MapFile v) s = absurd s
spelled (Base n) s = absurd s
spelled Check s = absurd s
spelled NoEffect s = absurd s
spelled GroupStart s = inr refl
spelled GroupEnd s = inr refl
spelled WholeStart s = refl
spelled WholeEnd s = refl
spelled Strip s = refl

more_phrases : (s : Says) (ss : List Says) → IsSound s → IsPhrases (spelling ss) (phrases_of ss) → IsPhrases (spelling (s ∷ ss)) (phrases_of (s ∷ ss))
more_phrases (Profile p) ss sound rest = (phrase_words p, spelling ss, refl, spelled p sound, rest)
more_phrases (Collects b) ss sound rest = rest
more_phrases (Tables b) ss sound rest = rest
more_phrases TakesFirst ss sound rest = rest
more_phrases WritesCode ss sound rest = rest
more_phrases (ExecutesStack b) ss sound rest = rest
more_phrases (Feature n) ss sound rest = rest
more_phrases (Segment a) ss sound rest = rest
more_phrases (Begins s) ss sound rest = rest
more_phrases StripsLocal ss sound rest = rest
more_phrases Nothing ss sound rest = rest

are_phrases : (ss : List Says) → All IsSound ss → IsPhrases (spelling ss) (phrases_of ss)
are_phrases [] sound = refl
are_phrases (s ∷ ss) sound = more_phrases s ss (All-head IsSound s ss sound) (are_phrases ss (All-tail IsSound s ss sound))

-- Groups.

last_push : {X : Type 0} (o : Option X) (xs : List X) (x : X) → last_or o (xs ++ x ∷ []) ≡ Some x
last_push o [] x = refl
last_push o (y ∷ ys) x = last_push (Some y) ys x

abbrev opened : Option Bool → Bool → Bool
opened None b = b
opened (Some b) c = b

open_more : (front : List Phrase) (p : Phrase) → is_open (front ++ p ∷ []) ≡ opened (group_in p) (is_open front)
open_more front p =
    ap (λ bs. unwrap_or (last_or None bs) false) (filter_map-append group_in front (p ∷ [])) ∙ by (group_in p)
  where
    by : (o : Option Bool) → unwrap_or (last_or None (filter_map group_in front ++ filter_map (λ (x : Unit {0}). o) (tt ∷ []))) false ≡ opened o (is_open front)
    by None = ap (λ bs. unwrap_or (last_or None bs) false) (append-nil (filter_map group_in front))
    by (Some b) = ap (λ x. unwrap_or x false) (last_push None (filter_map group_in front) b)

after : (b : Bool) (p : Phrase) → is_open_after b (Profile p) ≡ opened (group_in p) b
after b (Output v) = refl
after b (Entry v) = refl
after b (Undefined v) = refl
after b (Directory v) = refl
after b (Input s) = refl
after b (MapFile v) = refl
after b (Base n) = refl
after b Check = refl
after b NoEffect = refl
after b GroupStart = refl
after b GroupEnd = refl
after b WholeStart = refl
after b WholeEnd = refl
after b Strip = refl

not_open : (b : Bool) → not b ≡ true → b ≡ false
not_open true e = sym e
not_open false e = refl

is_shut : (b : Bool) → b ≡ false → not b ≡ true
is_shut b e = ap not e

allowed : (b a : Bool) → (not b || a) ≡ true → b ≡ true → a ≡ true
allowed true a e t = e
allowed false a e t = absurd (false≢true t)

allows : (b a : Bool) → (b ≡ true → a ≡ true) → (not b || a) ≡ true
allows true a h = h refl
allows false a h = refl

both_true : (a b : Bool) → a ≡ true → b ≡ true → (a && b) ≡ true
both_true a b e f = rw (e, f) refl

follow : (front : List Phrase) (p : Phrase) → may_stand (is_open front) (Profile p) ≡ true → MayFollow front p
follow front GroupStart m = not_open (is_open front) m
follow front GroupEnd m = m
follow front (Input s) m = allowed (is_open front) (is_archive s) m
follow front (Output v) m = tt
follow front (Entry v) m = tt
follow front (Undefined v) m = tt
follow front (Directory v) m = tt
follow front (MapFile v) m = tt
follow front (Base n) m = tt
follow front Check m = tt
follow front NoEffect m = tt
follow front WholeStart m = tt
follow front WholeEnd m = tt
follow front Strip m = tt

followed : (front : List Phrase) (p : Phrase) → MayFollow front p → may_stand (is_open front) (Profile p) ≡ true
followed front GroupStart m = is_shut (is_open front) m
followed front GroupEnd m = m
followed front (Input s) m = allows (is_open front) (is_archive s) m
followed front (Output v) m = refl
followed front (Entry v) m = refl
followed front (Undefined v) m = refl
followed front (Directory v) m = refl
followed front (MapFile v) m = refl
followed front (Base n) m = refl
followed front Check m = refl
followed front NoEffect m = refl
followed front WholeStart m = refl
followed front WholeEnd m = refl
followed front Strip m = refl

next_open : (front : List Phrase) (p : Phrase) → is_open_after (is_open front) (Profile p) ≡ is_open (front ++ p ∷ [])
next_open front p = after (is_open front) p ∙ sym (open_more front p)

abbrev Closed : List Phrase → List Phrase → Type 0
Closed front ps = AllFollow front ps × (is_open (front ++ ps) ≡ false)

grouped_follow : (ss : List Says) (front : List Phrase) → are_grouped (is_open front) ss ≡ true → Closed front (phrases_of ss)
grouped_follow [] front g = (tt, ap is_open (append-nil front) ∙ not_open (is_open front) g)
grouped_follow (Profile p ∷ ss) front g =
    let parts = and_parts (may_stand (is_open front) (Profile p)) (are_grouped (is_open_after (is_open front) (Profile p)) ss) g in
    let rest = grouped_follow ss (front ++ p ∷ []) (ap (λ b. are_grouped b ss) (sym (next_open front p)) ∙ parts.1) in
    ((follow front p parts.0, rest.0), ap is_open (sym (append_assoc front (p ∷ []) (phrases_of ss))) ∙ rest.1)
grouped_follow (Collects b ∷ ss) front g = grouped_follow ss front g
grouped_follow (Tables b ∷ ss) front g = grouped_follow ss front g
grouped_follow (TakesFirst ∷ ss) front g = grouped_follow ss front g
grouped_follow (WritesCode ∷ ss) front g = grouped_follow ss front g
grouped_follow (ExecutesStack b ∷ ss) front g = grouped_follow ss front g
grouped_follow (Feature n ∷ ss) front g = grouped_follow ss front g
grouped_follow (Segment a ∷ ss) front g = grouped_follow ss front g
grouped_follow (Begins s ∷ ss) front g = grouped_follow ss front g
grouped_follow (StripsLocal ∷ ss) front g = grouped_follow ss front g
grouped_follow (Nothing ∷ ss) front g = grouped_follow ss front g

follow_grouped : (ss : List Says) (front : List Phrase) → Closed front (phrases_of ss) → are_grouped (is_open front) ss ≡ true
follow_grouped [] front c = is_shut (is_open front) (sym (ap is_open (append-nil front)) ∙ c.1)
follow_grouped (Profile p ∷ ss) front c =
    let rest = follow_grouped ss (front ++ p ∷ []) (c.0.1, ap is_open (append_assoc front (p ∷ []) (phrases_of ss)) ∙ c.1) in
    both_true (may_stand (is_open front) (Profile p)) (are_grouped (is_open_after (is_open front) (Profile p)) ss)
    (followed front p c.0.0) (ap (λ b. are_grouped b ss) (next_open front p) ∙ rest)
follow_grouped (Collects b ∷ ss) front c = follow_grouped ss front c
follow_grouped (Tables b ∷ ss) front c = follow_grouped ss front c
follow_grouped (TakesFirst ∷ ss) front c = follow_grouped ss front c
follow_grouped (WritesCode ∷ ss) front c = follow_grouped ss front c
follow_grouped (ExecutesStack b ∷ ss) front c = follow_grouped ss front c
follow_grouped (Feature n ∷ ss) front c = follow_grouped ss front c
follow_grouped (Segment a ∷ ss) front c = follow_grouped ss front c
follow_grouped (Begins s ∷ ss) front c = follow_grouped ss front c
follow_grouped (StripsLocal ∷ ss) front c = follow_grouped ss front c
follow_grouped (Nothing ∷ ss) front c = follow_grouped ss front c

-- Items.

abbrev HasNone : List Phrase → List Phrase → Bool
HasNone front ps = length (items_behind front ps) == 0

some_first : (x : Item) (xs : List Item) → (length (x ∷ xs) == 0) ≡ false
some_first x xs = grind (arith, nat_tests)

next_items : (p : Phrase) (ss : List Says) (front : List Phrase) →
    ((more : List Phrase) → HasNone more (phrases_of ss) ≡ not (has_item ss)) →
    HasNone front (p ∷ phrases_of ss) ≡ not (is_item (Profile p) || has_item ss)
next_items (Input s) ss front rest = some_first (item_behind front s) (items_behind (front ++ Input s ∷ []) (phrases_of ss))
next_items (Output v) ss front rest = rest (front ++ Output v ∷ [])
next_items (Entry v) ss front rest = rest (front ++ Entry v ∷ [])
next_items (Undefined v) ss front rest = rest (front ++ Undefined v ∷ [])
next_items (Directory v) ss front rest = rest (front ++ Directory v ∷ [])
next_items (MapFile v) ss front rest = rest (front ++ MapFile v ∷ [])
next_items (Base n) ss front rest = rest (front ++ Base n ∷ [])
next_items Check ss front rest = rest (front ++ Check ∷ [])
next_items NoEffect ss front rest = rest (front ++ NoEffect ∷ [])
next_items GroupStart ss front rest = rest (front ++ GroupStart ∷ [])
next_items GroupEnd ss front rest = rest (front ++ GroupEnd ∷ [])
next_items WholeStart ss front rest = rest (front ++ WholeStart ∷ [])
next_items WholeEnd ss front rest = rest (front ++ WholeEnd ∷ [])
next_items Strip ss front rest = rest (front ++ Strip ∷ [])

no_items : (ss : List Says) (front : List Phrase) → HasNone front (phrases_of ss) ≡ not (has_item ss)
no_items [] front = refl
no_items (Profile p ∷ ss) front = next_items p ss front (no_items ss)
no_items (Collects b ∷ ss) front = no_items ss front
no_items (Tables b ∷ ss) front = no_items ss front
no_items (TakesFirst ∷ ss) front = no_items ss front
no_items (WritesCode ∷ ss) front = no_items ss front
no_items (ExecutesStack b ∷ ss) front = no_items ss front
no_items (Feature n ∷ ss) front = no_items ss front
no_items (Segment a ∷ ss) front = no_items ss front
no_items (Begins s ∷ ss) front = no_items ss front
no_items (StripsLocal ∷ ss) front = no_items ss front
no_items (Nothing ∷ ss) front = no_items ss front

-- Nothing asks for a check.

no_check : (ss : List Says) → All IsSound ss → list_any is_check (phrases_of ss) ≡ false
no_check [] sound = refl
no_check (s ∷ ss) sound = by s (All-head IsSound s ss sound) (no_check ss (All-tail IsSound s ss sound))
  where
    of : (p : Phrase) → IsSoundPhrase p → list_any is_check (phrases_of ss) ≡ false → (is_check p || list_any is_check (phrases_of ss)) ≡ false
    of (Output v) is rest = rest
    of (Entry v) is rest = rest
    of (Undefined v) is rest = rest
    of (Directory v) is rest = rest
    of (Input x) is rest = rest
    of (MapFile v) is rest = absurd is
    of (Base n) is rest = absurd is
    of Check is rest = absurd is
    of NoEffect is rest = absurd is
    of GroupStart is rest = rest
    of GroupEnd is rest = rest
    of WholeStart is rest = rest
    of WholeEnd is rest = rest
    of Strip is rest = rest

    by : (x : Says) → IsSound x → list_any is_check (phrases_of ss) ≡ false → list_any is_check (phrases_of (x ∷ ss)) ≡ false
    by (Profile p) is rest = of p is rest
    by (Collects b) is rest = rest
    by (Tables b) is rest = rest
    by TakesFirst is rest = rest
    by WritesCode is rest = rest
    by (ExecutesStack b) is rest = rest
    by (Feature n) is rest = rest
    by (Segment a) is rest = rest
    by (Begins x) is rest = rest
    by StripsLocal is rest = rest
    by Nothing is rest = rest

-- What is judged.

either : (a b : Bool) → (a && b) ≡ false → (a ≡ false) ⊎ (b ≡ false)
either true b e = inr e
either false b e = inl refl

module _ (words : List (List ℕ)) (ss : List Says) (is : said words ≡ Some ss) where
  same_says : (p : ForeignPlan) (a : IsAsked words p) → a.says ≡ ss
  same_says p a = same_Some a.says ss (sym a.said_is ∙ is)

  pub asked : is_command ss ≡ true → IsAsked words (plan_said ss)
  asked good =
      let parts = and_parts (are_grouped false ss) (has_item ss) good in
      let closed = grouped_follow ss [] parts.0 in
      record {
        says = ss;
        said_is = is;
        grouped = closed.0;
        closed = closed.1;
        some = no_items ss [] ∙ ap not parts.1;
        plan_is = refl;
      }

  loose : are_grouped false ss ≡ false → (p : ForeignPlan) → IsAsked words p → ⊥
  loose open_end p a =
      let closed : Closed [] (phrases_of ss) = subst (λ (x : List Says). Closed [] (phrases_of x)) (same_says p a) (a.grouped, a.closed) in
      false≢true (sym open_end ∙ follow_grouped ss [] closed)

  bare : has_item ss ≡ false → (p : ForeignPlan) → IsAsked words p → ⊥
  bare none p a =
      let plan : p ≡ plan_said ss = a.plan_is ∙ ap plan_said (same_says p a) in
      let some : (length (plan_of_phrases (phrases_of ss)).items == 0) ≡ false = ap (λ (q : ForeignPlan). length q.plan.items == 0) (sym plan) ∙ a.some in
      false≢true (sym some ∙ (no_items ss [] ∙ ap not none))

  pub not_asked : is_command ss ≡ false → (p : ForeignPlan) → IsAsked words p → ⊥
  not_asked bad p a = by (either (are_grouped false ss) (has_item ss) bad)
    where
      by : (are_grouped false ss ≡ false) ⊎ (has_item ss ≡ false) → ⊥
      by (inl e) = loose e p a
      by (inr e) = bare e p a

pub not_said : (words : List (List ℕ)) → said words ≡ None → (p : ForeignPlan) → IsAsked words p → ⊥
not_said words none p a = none-some a.says (sym none ∙ a.said_is)

pub has_plan : (ss : List Says) → All IsSound ss → is_command ss ≡ true → HasPlan (spelling ss) (plan_of_phrases (phrases_of ss))
has_plan ss sound good =
    let parts = and_parts (are_grouped false ss) (has_item ss) good in
    let closed = grouped_follow ss [] parts.0 in
    let some : (length (plan_of_phrases (phrases_of ss)).items == 0) ≡ false = no_items ss [] ∙ ap not parts.1 in (
      phrases_of ss,
      record {
        spelled = are_phrases ss sound;
        grouped = closed.0;
        closed = closed.1;
        plan_is = refl;
        some = λ e. false≢true (sym some ∙ ap (λ (xs : List Item). length xs == 0) e);
        mapped = λ t. absurd (false≢true (sym (no_check ss sound) ∙ t));
      },
    )
