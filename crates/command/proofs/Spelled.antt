-- What is read from words is spelled by them.
use Rattle.std.proofs.Common.{◌≡◌, ◌≢◌, inl, inr, ℕ, ◌<◌, Bool, true, false, cond, ◌||◌, eqb, List, [], ◌∷◌, ◌++◌, length, take, drop, Option, Some, None, IfSome, Result, Ok, Err, refl, ap, ◌∙◌, sym, subst, codes, arith}
use Rattle.std.specs.Option.{option_map, option_or, option_map_or}
use Rattle.std.specs.List.{starts_with}
use Rattle.std.specs.Str.{bytes_eq}
use Rattle.std.proofs.lemmas.List.{take-append-drop}
use Rattle.std.proofs.lemmas.Bool.{false≢true}
use Rattle.std.proofs.lemmas.Slice.Eq.{bytes_eq-Decides}
use Rattle.elf_model.specs.declared.faults.CmdFault.{CmdFault}
use Rattle.elf_model.specs.declared.faults.CmdFault.TheVariants.{MissingValue, UnknownOption, BadNumber}
use Rattle.elf_model.specs.Inputs.Command.{Path, Library, Phrase, Output, Entry, Undefined, Directory, Input, MapFile, Base, GroupStart, GroupEnd, WholeStart, WholeEnd, Check, Strip, NoEffect, Setting, OutputFile, EntrySymbol, UndefinedSymbol, SearchDirectory, LibraryName, Machine, MapPath, TextSegment, and_then, is_empty, after, setting_of, joined_of, switch_of, base_of, meaning, given, input, of_word, IsSpelled}
use Rattle.command.specs.Steps.{with_next, phrase_at}

-- a choice by a word's text
if_text : {X : Type 0} (P : X → Type 0) (w t : List ℕ) (x : X) (rest : Option X) → (w ≡ t → P x) → IfSome rest P → IfSome (cond (bytes_eq w t) (Some x) rest) P
if_text P w t x rest here there = by (bytes_eq w t) (bytes_eq-Decides w t).0 here there where
  by : (b : Bool) → (b ≡ true → w ≡ t) → (w ≡ t → P x) → IfSome rest P → IfSome (cond b (Some x) rest) P
  by true d h r = h (d refl)
  by false d h r = r

if_either : {X : Type 0} (P : X → Type 0) (w t u : List ℕ) (x : X) (rest : Option X) → (w ≡ t → P x) → (w ≡ u → P x) → IfSome rest P → IfSome (cond (bytes_eq w t || bytes_eq w u) (Some x) rest) P
if_either P w t u x rest here too there = by (bytes_eq w t) (bytes_eq w u) (bytes_eq-Decides w t).0 (bytes_eq-Decides w u).0 here too there where
  by : (b c : Bool) → (b ≡ true → w ≡ t) → (c ≡ true → w ≡ u) → (w ≡ t → P x) → (w ≡ u → P x) → IfSome rest P → IfSome (cond (b || c) (Some x) rest) P
  by true c d e h k r = h (d refl)
  by false true d e h k r = k (e refl)
  by false false d e h k r = r

if_or : {X : Type 0} (P : X → Type 0) (o p : Option X) → IfSome o P → IfSome p P → IfSome (option_or o p) P
if_or P None p h k = k
if_or P (Some x) p h k = h

-- what stands behind a text at a word's front
after_is : (t w : List ℕ) → IfSome (after t w) (λ v. w ≡ t ++ v)
after_is t w = by (bytes_eq t (take (length t) w)) (bytes_eq-Decides t (take (length t) w)).0 where
  by : (b : Bool) → (b ≡ true → t ≡ take (length t) w) → IfSome (cond b (Some (drop (length t) w)) None) (λ v. w ≡ t ++ v)
  by true d = sym (take-append-drop (length t) w) ∙ ap (λ f. f ++ drop (length t) w) (sym (d refl))
  by false d = tt

-- the option that a word is
abbrev IsOption : Setting → List ℕ → Type 0
IsOption OutputFile w = w ≡ codes "-o"
IsOption EntrySymbol w = w ≡ codes "-e"
IsOption UndefinedSymbol w = w ≡ codes "-u"
IsOption SearchDirectory w = w ≡ codes "-L"
IsOption LibraryName w = w ≡ codes "-l"
IsOption Machine w = w ≡ codes "-m"
IsOption MapPath w = ⊥
IsOption TextSegment w = ⊥

setting_is : (w : List ℕ) → IfSome (setting_of w) (λ s. IsOption s w)
setting_is w =
    if_text (λ s. IsOption s w) w (codes "-o") OutputFile _ (λ e. e)
    (if_text (λ s. IsOption s w) w (codes "-e") EntrySymbol _ (λ e. e)
    (if_text (λ s. IsOption s w) w (codes "-u") UndefinedSymbol _ (λ e. e)
    (if_text (λ s. IsOption s w) w (codes "-L") SearchDirectory _ (λ e. e)
    (if_text (λ s. IsOption s w) w (codes "-l") LibraryName _ (λ e. e)
    (if_text (λ s. IsOption s w) w (codes "-m") Machine None (λ e. e) tt)))))

-- the option in front of its value
abbrev IsJoined : List ℕ → Setting × List ℕ → Type 0
IsJoined w (SearchDirectory, v) = w ≡ codes "-L" ++ v
IsJoined w (LibraryName, v) = w ≡ codes "-l" ++ v
IsJoined w (MapPath, v) = w ≡ codes "-Map=" ++ v
IsJoined w (TextSegment, v) = w ≡ codes "-Ttext-segment=" ++ v
IsJoined w (_, v) = ⊥

joined_by : (s : Setting) (w t : List ℕ) → ((v : List ℕ) → w ≡ t ++ v → IsJoined w (s, v)) → IfSome (option_map (λ v. (s, v)) (after t w)) (IsJoined w)
joined_by s w t h = by (after t w) (after_is t w) where
  by : (o : Option (List ℕ)) → IfSome o (λ v. w ≡ t ++ v) → IfSome (option_map (λ v. (s, v)) o) (IsJoined w)
  by None k = tt
  by (Some v) k = h v k

joined_is : (w : List ℕ) → IfSome (joined_of w) (IsJoined w)
joined_is w =
    if_or (IsJoined w) _ _ (joined_by SearchDirectory w (codes "-L") (λ v e. e))
    (if_or (IsJoined w) _ _ (joined_by LibraryName w (codes "-l") (λ v e. e))
    (if_or (IsJoined w) _ _ (joined_by MapPath w (codes "-Map=") (λ v e. e))
    (joined_by TextSegment w (codes "-Ttext-segment=") (λ v e. e))))

one : (w t : List ℕ) → w ≡ t → w ∷ [] ≡ t ∷ []
one w t e = ap (λ x. x ∷ []) e

switch_is : (w : List ℕ) → IfSome (switch_of w) (IsSpelled (w ∷ []))
switch_is w =
    if_either (IsSpelled (w ∷ [])) w (codes "--start-group") (codes "-(") GroupStart _ (λ e. inl (one w _ e)) (λ e. inr (one w _ e))
    (if_either (IsSpelled (w ∷ [])) w (codes "--end-group") (codes "-)") GroupEnd _ (λ e. inl (one w _ e)) (λ e. inr (one w _ e))
    (if_text (IsSpelled (w ∷ [])) w (codes "--whole-archive") WholeStart _ (one w _)
    (if_text (IsSpelled (w ∷ [])) w (codes "--no-whole-archive") WholeEnd _ (one w _)
    (if_text (IsSpelled (w ∷ [])) w (codes "--check") Check _ (one w _)
    (if_text (IsSpelled (w ∷ [])) w (codes "-s") Strip _ (one w _)
    (if_either (IsSpelled (w ∷ [])) w (codes "-static") (codes "-nostdlib") NoEffect None (λ e. inl (one w _ e)) (λ e. inr (inl (one w _ e))) tt))))))

ok_same : (p q : Phrase) → ◌≡◌ {A = Result Phrase CmdFault} (Ok p) (Ok q) → p ≡ q
ok_same p q e = cc

given_ok : (s : Setting) (v : List ℕ) (p : Phrase) → given s v ≡ Ok p → (v ≢ []) × (meaning s v ≡ Ok p)
given_ok s v p = by (is_empty v) (λ e. ap is_empty e) where
  by : (b : Bool) → (v ≡ [] → b ≡ true) → cond b (Err MissingValue) (meaning s v) ≡ Ok p → (v ≢ []) × (meaning s v ≡ Ok p)
  by true d e = absurd cc
  by false d e = (λ n. false≢true (d n), e)

machine_ok : (v : List ℕ) (p : Phrase) → meaning Machine v ≡ Ok p → (v ≡ codes "elf_x86_64") × (NoEffect ≡ p)
machine_ok v p = by (bytes_eq v (codes "elf_x86_64")) (bytes_eq-Decides v (codes "elf_x86_64")).0 where
  by : (b : Bool) → (b ≡ true → v ≡ codes "elf_x86_64") → cond b (Ok NoEffect) (Err UnknownOption) ≡ Ok p → (v ≡ codes "elf_x86_64") × (NoEffect ≡ p)
  by true d e = (d refl, ok_same NoEffect p e)
  by false d e = absurd cc

segment_ok : (v : List ℕ) (p : Phrase) → meaning TextSegment v ≡ Ok p → (n : ℕ) × (base_of v ≡ Some n) × (Base n ≡ p)
segment_ok v p = by (base_of v) where
  by : (o : Option ℕ) → option_map_or (λ n. Ok (Base n)) o (Err BadNumber) ≡ Ok p → (n : ℕ) × (o ≡ Some n) × (Base n ≡ p)
  by None e = absurd cc
  by (Some n) e = (n, refl, ok_same (Base n) p e)

two : (w t v : List ℕ) → w ≡ t → w ∷ v ∷ [] ≡ t ∷ v ∷ []
two w t v e = ap (λ x. x ∷ v ∷ []) e

next_spelled : (s : Setting) (w v : List ℕ) (p : Phrase) → IsOption s w → v ≢ [] → meaning s v ≡ Ok p → IsSpelled (w ∷ v ∷ []) p
next_spelled OutputFile w v p o n e = subst (IsSpelled (w ∷ v ∷ [])) (ok_same (Output v) p e) (two w _ v o, n)
next_spelled EntrySymbol w v p o n e = subst (IsSpelled (w ∷ v ∷ [])) (ok_same (Entry v) p e) (two w _ v o, n)
next_spelled UndefinedSymbol w v p o n e = subst (IsSpelled (w ∷ v ∷ [])) (ok_same (Undefined v) p e) (two w _ v o, n)
next_spelled SearchDirectory w v p o n e = subst (IsSpelled (w ∷ v ∷ [])) (ok_same (Directory v) p e) (inl (two w _ v o, n))
next_spelled LibraryName w v p o n e = subst (IsSpelled (w ∷ v ∷ [])) (ok_same (Input (Library v)) p e) (inl (two w _ v o, n))
next_spelled Machine w v p o n e =
    let m = machine_ok v p e in
    subst (IsSpelled (w ∷ v ∷ [])) m.1 (inr (inr (two w _ v o ∙ ap (λ x. codes "-m" ∷ x ∷ []) m.0)))
next_spelled MapPath w v p o n e = absurd o
next_spelled TextSegment w v p o n e = absurd o

joined_spelled : (s : Setting) (w v : List ℕ) (p : Phrase) → IsJoined w (s, v) → v ≢ [] → meaning s v ≡ Ok p → IsSpelled (w ∷ []) p
joined_spelled SearchDirectory w v p o n e = subst (IsSpelled (w ∷ [])) (ok_same (Directory v) p e) (inr (one w _ o, n))
joined_spelled LibraryName w v p o n e = subst (IsSpelled (w ∷ [])) (ok_same (Input (Library v)) p e) (inr (one w _ o, n))
joined_spelled MapPath w v p o n e = subst (IsSpelled (w ∷ [])) (ok_same (MapFile v) p e) (one w _ o, n)
joined_spelled TextSegment w v p o n e =
    let b = segment_ok v p e in
    subst (IsSpelled (w ∷ [])) b.2 (v, (one w _ o, n), b.1)
joined_spelled OutputFile w v p o n e = absurd o
joined_spelled EntrySymbol w v p o n e = absurd o
joined_spelled UndefinedSymbol w v p o n e = absurd o
joined_spelled Machine w v p o n e = absurd o

no_dash : (w : List ℕ) → starts_with eqb w (codes "-") ≡ false → (v : List ℕ) → w ≢ codes "-" ++ v
no_dash w e v same = false≢true (sym e ∙ ap (λ x. starts_with eqb x (codes "-")) same)

input_spelled : (w : List ℕ) (p : Phrase) → input w ≡ Ok p → IsSpelled (w ∷ []) p
input_spelled w p = by (is_empty w) (starts_with eqb w (codes "-")) (λ e. ap is_empty e) (no_dash w) where
  by : (b c : Bool) → (w ≡ [] → b ≡ true) → (c ≡ false → (v : List ℕ) → w ≢ codes "-" ++ v) → cond (b || c) (Err UnknownOption) (Ok (Input (Path w))) ≡ Ok p → IsSpelled (w ∷ []) p
  by true c d n e = absurd cc
  by false true d n e = absurd cc
  by false false d n e = subst (IsSpelled (w ∷ [])) (ok_same (Input (Path w)) p e) (refl, (λ s. false≢true (d s)), n refl)

of_word_spelled : (w : List ℕ) (p : Phrase) → of_word w ≡ Ok p → IsSpelled (w ∷ []) p
of_word_spelled w p = by (switch_of w) (joined_of w) (switch_is w) (joined_is w) where
  by : (o : Option Phrase) (j : Option (Setting × List ℕ)) → IfSome o (IsSpelled (w ∷ [])) → IfSome j (IsJoined w) → option_map_or Ok o (option_map_or (λ r. given r.0 r.1) j (input w)) ≡ Ok p → IsSpelled (w ∷ []) p
  by (Some q) j h k e = subst (IsSpelled (w ∷ [])) (ok_same q p e) h
  by None (Some (s, v)) h k e = let g = given_ok s v p e in joined_spelled s w v p k g.0 g.1
  by None None h k e = input_spelled w p e

-- the words of the first phrase, and how many are left
pub record IsFirst (words : List (List ℕ)) (p : Phrase) (rest : List (List ℕ)) : Type 0 where
  pub front : List (List ℕ)
  pub whole : words ≡ front ++ rest
  pub spelled : IsSpelled front p
  pub fewer : length rest < length words

taken_ok : (r : Result Phrase CmdFault) (ws : List (List ℕ)) (p : Phrase) (rest : List (List ℕ)) → and_then {Y = Phrase × List (List ℕ)} r (λ q. Ok (q, ws)) ≡ Ok (p, rest) → (r ≡ Ok p) × (ws ≡ rest)
taken_ok (Ok q) ws p rest e =
    let same : ◌≡◌ {A = Phrase × List (List ℕ)} (q, ws) (p, rest) = cc in
    (ap (λ (x : Phrase × List (List ℕ)). Ok x.0) same, ap (λ (x : Phrase × List (List ℕ)). x.1) same)
taken_ok (Err f) ws p rest e = absurd cc

pub first_spelled : (w : List ℕ) (ws : List (List ℕ)) (p : Phrase) (rest : List (List ℕ)) → phrase_at w ws ≡ Ok (p, rest) → IsFirst (w ∷ ws) p rest
first_spelled w ws p rest = by (setting_of w) ws (setting_is w) where
  by : (o : Option Setting) (us : List (List ℕ)) → IfSome o (λ s. IsOption s w) → option_map_or (with_next us) o (and_then {Y = Phrase × List (List ℕ)} (of_word w) (λ q. Ok (q, us))) ≡ Ok (p, rest) → IsFirst (w ∷ us) p rest
  by None us h e =
      let t = taken_ok (of_word w) us p rest e in
      record { front = w ∷ []; whole = ap (λ x. w ∷ x) t.1; spelled = of_word_spelled w p t.0; fewer = omega (arith, ap length t.1) }
  by (Some s) [] h e = absurd cc
  by (Some s) (v ∷ vs) h e =
      let t = taken_ok (given s v) vs p rest e in
      let g = given_ok s v p t.0 in
      record { front = w ∷ v ∷ []; whole = ap (λ x. w ∷ v ∷ x) t.1; spelled = next_spelled s w v p h g.0 g.1; fewer = omega (arith, ap length t.1) }
