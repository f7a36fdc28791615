-- The text of a map has one reading: which line is the first wrong one, and that a text has one record.
use Rattle.std.proofs.Common.{◌≡◌, ℕ, suc, ◌+◌, ◌-◌, ◌<◌, ◌≤◌, ◌⊎◌, inl, inr, None, List, [], ◌∷◌, ◌++◌, map, length, take, drop, refl, sym, ap, ◌∙◌, subst, arith}
use Rattle.std.specs.Prelude.{option_to_list, All}
use Rattle.std.specs.List.{flat_map}
use Rattle.std.proofs.lemmas.Bool.{cases_lt}
use Rattle.std.proofs.lemmas.List.{append_assoc, append-nil, length-append, length-take-le, take_at, take_all, take-append-drop}
use Rattle.std.proofs.lemmas.List.Elements.{All-nil, All-cons, All-head, All-tail, All-append, All-map, All-take}
use Rattle.std.proofs.lemmas.Option.{some_pair_parts}
use Rattle.elf_model.specs.Image.MapRecord.{MapRecord}
use Rattle.elf_model.specs.Image.MapText.{Line, Version, Object, Drop, Place, Common, Got, Slot, Symbol, Symtab, End, version_text, line_text, body, Fits, IsOrdered, IsMap, Begins, IsFirstWrong}
use Rattle.linkmap.specs.Reading.{line_at, version_at}
use Rattle.linkmap.proofs.ChainLaws.{Follows, Chain, last, chain_at, none_after_end, ordered_chain, tail, from_drops, from_places, from_commons, from_got, from_slots, from_symbols, from_symtab}
use Rattle.linkmap.proofs.LineLaws.{FitsLine, IsVersion, line-IsParser, version-IsParser}

abbrev pub spell : List Line → List ℕ
spell ls = flat_map line_text ls

-- the lines of a map fit
fits_body : (m : MapRecord) → Fits m → All FitsLine (body m)
unfolding body
fits_body m f =
    All-append FitsLine (map Object m.objects) (from_drops m) (All-map FitsLine Object m.objects f.objects)
    (All-append FitsLine (map Drop m.drops) (from_places m) (All-map FitsLine Drop m.drops f.drops)
    (All-append FitsLine (map Place m.places) (from_commons m) (All-map FitsLine Place m.places f.places)
    (All-append FitsLine (map Common m.commons) (from_got m) (All-map FitsLine Common m.commons f.commons)
    (All-append FitsLine (map Got (option_to_list m.got)) (from_slots m) (All-map FitsLine Got (option_to_list m.got) f.got)
    (All-append FitsLine (map Slot m.slots) (from_symbols m) (All-map FitsLine Slot m.slots f.slots)
    (All-append FitsLine (map Symbol m.symbols) (from_symtab m) (All-map FitsLine Symbol m.symbols f.symbols)
    (All-map FitsLine Symtab (option_to_list m.symtab) f.symtab)))))))

pub fits_tail : (m : MapRecord) → IsMap m → All FitsLine (tail m)
fits_tail m h = All-append FitsLine (body m) (End ∷ []) (fits_body m h.fits) (All-cons FitsLine End [] tt (All-nil FitsLine))

-- two readings of the same bytes: the longer goes on where the shorter ends
pub record Decoded (us bs : List Line) (x y : List ℕ) : Type 0 where
  pub others : List Line
  pub more : bs ≡ us ++ others
  pub rest : x ≡ spell others ++ y

cons_same : (b u : Line) (bs us : List Line) → b ≡ u → bs ≡ us → b ∷ bs ≡ u ∷ us
cons_same b u bs us e f = cc

pub decoded : (us bs : List Line) (x y : List ℕ) → All FitsLine us → All FitsLine bs → spell us ++ x ≡ spell bs ++ y → length us ≤ length bs → Decoded us bs x y
decoded [] bs x y f g e l = record { others = bs; more = refl; rest = e }
decoded (u ∷ us) [] x y f g e l = absurd (omega arith)
decoded (u ∷ us) (b ∷ bs) x y f g e l =
    let first = line-IsParser.again u (spell us ++ x) (All-head FitsLine u us f) in
    let second = line-IsParser.again b (spell bs ++ y) (All-head FitsLine b bs g) in
    let same = sym (append_assoc (line_text u) (spell us) x) ∙ e ∙ append_assoc (line_text b) (spell bs) y in
    let parts = some_pair_parts u b (spell us ++ x) (spell bs ++ y) (sym first ∙ ap line_at same ∙ second) in
    let d = decoded us bs x y (All-tail FitsLine u us f) (All-tail FitsLine b bs g) parts.1 (omega arith) in
    record { others = d.others; more = cons_same b u bs (us ++ d.others) (sym parts.0) d.more; rest = d.rest }

-- the first line tells the version
pub version_of : (m : MapRecord) → IsOrdered m → IsVersion m.version
version_of m o = by o.version where
  by : ((m.version ≡ 1) × (m.symtab ≡ None)) ⊎ (m.version ≡ 2) → IsVersion m.version
  by (inl h) = inl h.0
  by (inr h) = inr h

pub same_first : (v w : ℕ) (x y : List ℕ) → IsVersion v → IsVersion w → version_text v ++ x ≡ version_text w ++ y → (v ≡ w) × (x ≡ y)
same_first v w x y f g e = some_pair_parts v w x y (sym (version-IsParser.again v x f) ∙ ap version_at e ∙ version-IsParser.again w y g)

chain_of : (v : ℕ) (m : MapRecord) → IsMap m → v ≡ m.version → Chain v (Version v) (tail m)
chain_of v m h e = subst (λ n. Chain n (Version n) (tail m)) (sym e) (ordered_chain m h.ordered)

-- lines behind the first that some map has there
pub record Front (us : List Line) : Type 0 where
  pub whole : MapRecord
  pub is_map : IsMap whole
  pub more : List Line
  pub front : tail whole ≡ us ++ more

fits_front : (us vs all : List Line) → all ≡ us ++ vs → All FitsLine all → All FitsLine us
fits_front us vs all e f =
    subst (λ (w : List Line). All FitsLine w) (ap (take (length us)) e ∙ take_at us vs (length us) refl) (All-take FitsLine (length us) all f)

fits_at : (us : List Line) (l : Line) (vs : List Line) → All FitsLine (us ++ l ∷ vs) → FitsLine l
fits_at [] l vs f = All-head FitsLine l vs f
fits_at (u ∷ us) l vs f = fits_at us l vs (All-tail FitsLine u (us ++ l ∷ vs) f)

-- nothing stands behind all lines of a map
pub no_more : (w m : MapRecord) → IsMap m → (l : Line) (others : List Line) → tail m ≡ tail w ++ l ∷ others → ⊥
no_more w m h l others e = none_after_end m.version (Version m.version) (body w) l others (subst (λ (t : List Line). Chain m.version (Version m.version) t) e (ordered_chain m h.ordered))

-- lines that begin some map, and a rest that begins with no line that may follow them
module _ (us : List Line) (rest : List ℕ) (f : Front us) (never : (l : Line) (left : List ℕ) → FitsLine l → Follows f.whole.version (last (Version f.whole.version) us) l → rest ≡ line_text l ++ left → ⊥) where
  abbrev own_version : ℕ
  own_version = f.whole.version

  own_fit : All FitsLine us
  own_fit = fits_front us f.more (tail f.whole) f.front (fits_tail f.whole f.is_map)

  further : (w : MapRecord) → IsMap w → own_version ≡ w.version → (others ls : List Line) → tail w ≡ (us ++ others) ++ ls → (y : List ℕ) → rest ≡ spell others ++ y → 0 < length others → ⊥
  further w h v [] ls e y r some = omega arith
  further w h v (l ∷ others) ls e y r some =
      let joined = e ∙ append_assoc us (l ∷ others) ls in
      never l (spell others ++ y)
      (fits_at us l (others ++ ls) (subst (λ (t : List Line). All FitsLine t) joined (fits_tail w h)))
      (chain_at own_version (Version own_version) us l (others ++ ls) (subst (λ (t : List Line). Chain own_version (Version own_version) t) joined (chain_of own_version w h v)))
      (r ∙ append_assoc (line_text l) (spell others) y)

  -- so no map goes on there
  no_further : (w : MapRecord) → IsMap w → own_version ≡ w.version → (n : ℕ) (y : List ℕ) → length us < n → n ≤ length (tail w) → spell us ++ rest ≡ spell (take n (tail w)) ++ y → ⊥
  no_further w h v n y longer within e =
      let size = length-take-le n (tail w) within in
      let d = decoded us (take n (tail w)) rest y own_fit (All-take FitsLine n (tail w) (fits_tail w h)) e (omega arith) in
      let split = sym (take-append-drop n (tail w)) ∙ ap (λ t. t ++ drop n (tail w)) d.more in
      let len = sym size ∙ ap length d.more ∙ length-append us d.others in
      further w h v d.others (drop n (tail w)) split y d.rest (omega arith)

  -- and the whole is no map, where the lines are not all lines of one, or something is left
  module _ (unfinished : f.more ≡ [] → rest ≡ [] → ⊥) where
    finished : (w : MapRecord) (others more : List Line) → more ≡ f.more → us ≡ tail w ++ others → [] ≡ spell others ++ rest → ⊥
    finished w [] [] e u r = unfinished (sym e) (sym r)
    finished w [] (l ∷ more) e u r =
        no_more w f.whole f.is_map l more (f.front ∙ ap (λ t. us ++ t) (sym e) ∙ ap (λ t. t ++ l ∷ more) (u ∙ append-nil (tail w)))
    finished w (l ∷ others) more e u r =
        no_more w f.whole f.is_map l (others ++ f.more) (f.front ∙ ap (λ t. t ++ f.more) u ∙ append_assoc (tail w) (l ∷ others) f.more)

    no_whole : (w : MapRecord) → IsMap w → own_version ≡ w.version → spell us ++ rest ≡ spell (tail w) ++ [] → ⊥
    no_whole w h v e = by (cases_lt (length us) (length (tail w))) where
      by : (length us < length (tail w)) ⊎ (length (tail w) ≤ length us) → ⊥
      by (inl shorter) =
          no_further w h v (length (tail w)) [] shorter (omega arith) (e ∙ ap (λ t. spell t ++ []) (sym (take_all (length (tail w)) (tail w) (omega arith))))
      by (inr longer) =
          let d = decoded (tail w) us [] rest (fits_tail w h) own_fit (sym e) longer in
          finished w d.others f.more refl d.more d.rest

    pub wrong_line : (bytes : List ℕ) (k : ℕ) → bytes ≡ version_text own_version ++ (spell us ++ rest) → k ≡ 2 + length us → IsFirstWrong k bytes
    wrong_line bytes k e count =
        let size = ap length f.front ∙ length-append us f.more in
        let here = ap spell (sym (take_at us f.more (length us) refl) ∙ ap (take (length us)) (sym f.front)) in
        let before : Begins (suc (length us)) bytes = record {
          whole = f.whole;
          is_map = f.is_map;
          within = omega arith;
          rest = rest;
          front = e ∙ ap (λ t. version_text own_version ++ (t ++ rest)) here ∙ sym (append_assoc (version_text own_version) (spell (take (length us) (tail f.whole))) rest);
        } in
        let at : suc (length us) ≡ k - 1 = omega arith in
        let next : k ≡ suc (suc (length us)) = omega arith in
        record {
          counted = omega arith;
          right = subst (λ n. Begins n bytes) at before;
          wrong = λ b. by (subst (λ n. Begins n bytes) next b);
          no_map = λ w h t.
              let p = first_of w h (spell (tail w) ++ []) (sym e ∙ t ∙ ap (λ z. version_text w.version ++ z) (sym (append-nil (spell (tail w))))) in
              no_whole w h p.0 p.1;
        } where
          first_of : (w : MapRecord) → IsMap w → (y : List ℕ) → version_text own_version ++ (spell us ++ rest) ≡ version_text w.version ++ y → (own_version ≡ w.version) × (spell us ++ rest ≡ y)
          first_of w h y same = same_first own_version w.version (spell us ++ rest) y (version_of f.whole f.is_map.ordered) (version_of w h.ordered) same

          by : Begins (suc (suc (length us))) bytes → ⊥
          by b =
              let n = suc (length us) in
              let p = first_of b.whole b.is_map (spell (take n (tail b.whole)) ++ b.rest) (sym e ∙ b.front ∙ append_assoc (version_text b.whole.version) (spell (take n (tail b.whole))) b.rest) in
              no_further b.whole b.is_map p.0 n b.rest (omega arith) (omega (arith, b.within)) p.1
