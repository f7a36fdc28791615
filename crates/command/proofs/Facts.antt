-- What holds of the plan of each command: its base is lawful, and its names aren't empty.
use Rattle.std.proofs.Common.{◌≡◌, ◌≢◌, inl, inr, ℕ, Bool, true, false, cond, List, [], ◌∷◌, ◌++◌, Option, Some, None, IfSome, refl, sym, subst, codes, arith}
use Rattle.std.specs.Option.{option_map, option_and_then, option_to_list, unwrap_or}
use Rattle.std.specs.List.{All, filter_map, cons_option, last_or}
use Rattle.std.proofs.lemmas.List.Elements.{All-nil, All-cons, All-head, All-tail}
use Rattle.std.proofs.lemmas.Bool.Decides.{nat_tests}
use Rattle.elf_model.specs.Inputs.Command.{Source, Path, Library, Item, Plan, Phrase, Output, Entry, Undefined, Directory, Input, MapFile, Base, address_of, base_of, is_base, IsBase, last_said, source_in, directory_in, undefined_in, entry_in, base_in, output_in, map_in, item_behind, items_behind, text_of, IsSpelled, IsPhrases, IsCommand, IsNamed}

-- P holds of what each phrase says of a part of the plan
said_all : {X : Type 0} (says : Phrase → Option X) (P : X → Type 0) → ((ws : List (List ℕ)) (p : Phrase) → IsSpelled ws p → IfSome (says p) P) → (words : List (List ℕ)) (ps : List Phrase) → IsPhrases words ps → All P (filter_map says ps)
said_all says P each words [] h = All-nil P
said_all {X = X} says P each words (p ∷ ps) h = more (says p) (filter_map says ps) (each h.0 p h.3) (said_all says P each h.1 ps h.4) where
  more : (o : Option X) (xs : List X) → IfSome o P → All P xs → All P (cons_option o xs)
  more None xs k rest = rest
  more (Some x) xs k rest = All-cons P x xs k rest

-- the last of some, or what holds otherwise
last_of : {X : Type 0} (P : X → Type 0) (o : Option X) (xs : List X) → IfSome o P → All P xs → IfSome (last_or o xs) P
last_of P o [] h a = h
last_of P o (x ∷ xs) h a = last_of P (Some x) xs (All-head P x xs a) (All-tail P x xs a)

otherwise : {X : Type 0} (P : X → Type 0) (o : Option X) (d : X) → IfSome o P → P d → P (unwrap_or o d)
otherwise P None d h k = k
otherwise P (Some x) d h k = h

last_said_is : {X : Type 0} (says : Phrase → Option X) (P : X → Type 0) (d : X) → ((ws : List (List ℕ)) (p : Phrase) → IsSpelled ws p → IfSome (says p) P) → P d → (words : List (List ℕ)) (ps : List Phrase) → IsPhrases words ps → P (last_said says d ps)
last_said_is says P d each k words ps h = otherwise P (last_or None (filter_map says ps)) d (last_of P None (filter_map says ps) tt (said_all says P each words ps h)) k

-- what each phrase says, by its spelling
record IsSaid (p : Phrase) : Type 0 where
  output : IfSome (output_in p) (λ v. v ≢ [])
  entry : IfSome (entry_in p) (λ v. v ≢ [])
  undefined : IfSome (undefined_in p) (λ v. v ≢ [])
  map : IfSome (map_in p) (λ v. v ≢ [])

said_is : (ws : List (List ℕ)) (p : Phrase) → IsSpelled ws p → IsSaid p
said_is ws (Output v) h = record { output = h.1; entry = tt; undefined = tt; map = tt }
said_is ws (Entry v) h = record { output = tt; entry = h.1; undefined = tt; map = tt }
said_is ws (Undefined v) h = record { output = tt; entry = tt; undefined = h.1; map = tt }
said_is ws (MapFile v) h = record { output = tt; entry = tt; undefined = tt; map = h.1 }
said_is ws p h = record { output = tt; entry = tt; undefined = tt; map = tt }

directory_is : (ws : List (List ℕ)) (p : Phrase) → IsSpelled ws p → IfSome (directory_in p) (λ v. v ≢ [])
directory_is ws (Directory v) (inl h) = h.1
directory_is ws (Directory v) (inr h) = h.1
directory_is ws p h = tt

source_is : (ws : List (List ℕ)) (p : Phrase) → IsSpelled ws p → IfSome (source_in p) (λ s. text_of s ≢ [])
source_is ws (Input (Path v)) h = h.1
source_is ws (Input (Library v)) (inl h) = h.1
source_is ws (Input (Library v)) (inr h) = h.1
source_is ws p h = tt

same_some : (m n : ℕ) → ◌≡◌ {A = Option ℕ} (Some m) (Some n) → m ≡ n
same_some m n e = cc

lawful : (n : ℕ) → is_base n ≡ true → IsBase n
lawful n h = (grind (arith, nat_tests, h), grind (arith, nat_tests, h), grind (arith, nat_tests, h))

base_lawful : (v : List ℕ) (n : ℕ) → base_of v ≡ Some n → IsBase n
base_lawful v n e = by (address_of v) e where
  tested : (b : Bool) (m : ℕ) → (b ≡ true → IsBase m) → ◌≡◌ {A = Option ℕ} (cond b (Some m) None) (Some n) → IsBase n
  tested true m d e = subst IsBase (same_some m n e) (d refl)
  tested false m d e = absurd cc

  by : (o : Option ℕ) → option_and_then (λ m. cond (is_base m) (Some m) None) o ≡ Some n → IsBase n
  by None e = absurd cc
  by (Some m) e = tested (is_base m) m (lawful m) e

base_is : (ws : List (List ℕ)) (p : Phrase) → IsSpelled ws p → IfSome (base_in p) IsBase
base_is ws (Base n) h = base_lawful h.0 n h.2
base_is ws p h = tt

items_are : (front : List Phrase) (words : List (List ℕ)) (ps : List Phrase) → IsPhrases words ps → All (λ (i : Item). text_of i.source ≢ []) (items_behind front ps)
items_are front words [] h = All-nil (λ (i : Item). text_of i.source ≢ [])
items_are front words (p ∷ ps) h = more (source_in p) (items_behind (front ++ p ∷ []) ps) (source_is h.0 p h.3) (items_are (front ++ p ∷ []) h.1 ps h.4) where
  more : (o : Option Source) (is : List Item) → IfSome o (λ s. text_of s ≢ []) → All (λ (i : Item). text_of i.source ≢ []) is → All (λ (i : Item). text_of i.source ≢ []) (option_to_list (option_map (item_behind front) o) ++ is)
  more None is k rest = rest
  more (Some s) is k rest = All-cons (λ (i : Item). text_of i.source ≢ []) (item_behind front s) is k rest

no_empty : (o : Option (List ℕ)) → IfSome o (λ v. v ≢ []) → o ≢ Some []
no_empty None h e = absurd cc
no_empty (Some v) h e = h cc

pub base_holds : (words : List (List ℕ)) (phrases : List Phrase) (plan : Plan) → IsCommand words phrases plan → IsBase plan.base
base_holds words phrases plan h =
    subst (λ (p : Plan). IsBase p.base) (sym h.plan_is) (last_said_is base_in IsBase 0x400000 base_is (lawful 0x400000 refl) words phrases h.spelled)

pub names_hold : (words : List (List ℕ)) (phrases : List Phrase) (plan : Plan) → IsCommand words phrases plan → IsNamed plan
names_hold words phrases plan h = subst IsNamed (sym h.plan_is) (record {
  items = items_are [] words phrases h.spelled;
  directories = said_all directory_in (λ v. v ≢ []) directory_is words phrases h.spelled;
  undefined = said_all undefined_in (λ v. v ≢ []) (λ ws p h. (said_is ws p h).undefined) words phrases h.spelled;
  entry = last_said_is entry_in (λ v. v ≢ []) (codes "_start") (λ ws p h. (said_is ws p h).entry) (λ e. absurd cc) words phrases h.spelled;
  output = last_said_is output_in (λ v. v ≢ []) (codes "a.out") (λ ws p h. (said_is ws p h).output) (λ e. absurd cc) words phrases h.spelled;
  map = no_empty (last_or None (filter_map map_in phrases)) (last_of (λ v. v ≢ []) None (filter_map map_in phrases) tt (said_all map_in (λ v. v ≢ []) (λ ws p h. (said_is ws p h).map) words phrases h.spelled));
})
