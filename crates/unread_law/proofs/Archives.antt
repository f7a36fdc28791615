-- Archives that agree but for their members' data have the same index and the same members' places, and are archives alike.
use Rattle.std.proofs.Common.{◌≡◌, ℕ, ◌+◌, ◌%◌, ◌≤◌, ◌<◌, ◌^◌, List, [], length, map, sym, ◌∙◌, ap, subst}
use Rattle.std.specs.Prelude.{All, Option, is_some, not, slice_index, unwrap_or, ◌==◌, ◌&&◌}
use Rattle.std.specs.List.{list_any}
use Rattle.std.proofs.lemmas.List.{length-map}
use Rattle.std.proofs.lemmas.List.Elements.{All-weaker}
use Rattle.elf_model.specs.Inputs.ArchiveFile.{HasGoodIndex, HasGoodNames, HasIndexData, IndexEntry, IsIndexFirst, IsArchive, IsGoodHeader, IsWhole, NamesMember, data_of, end_at, entries_of, header_offsets, header_offsets_from, index, index_in, is_number, members, next_header, ordinary, stored_members}
use Rattle.elf_model.specs.Inputs.Opening.{archive_entries, is_unindexed}
use Rattle.unread_law.specs.Unread.{AgreeAt, AgreeOutside}
use Rattle.unread_law.proofs.Headers.{end_same, fmag_same, next_same, readable_same, size_field_same, size_same, walk_same}
use Rattle.unread_law.proofs.Members.{bare, first_from_bare, first_of_bare, form_from_bare, form_of_bare, index_bare, names_from_bare, names_of_bare, offsets_bare, offsets_of, stored_at, stored_same, there_by}

-- one header
whole_on : (a b : List ℕ) (at : ℕ) → length a ≡ length b → AgreeAt a b at → IsWhole a at → IsWhole b at
whole_on a b at long agree whole = record {
  header = subst (λ (n : ℕ). at + 60 ≤ n) long whole.header;
  data_and_pad = λ readable.
      subst (λ (n : ℕ). n ≤ length b) (next_same a b at agree.header)
      (subst (λ (n : ℕ). next_header a at ≤ n) long (whole.data_and_pad (readable_same a b at long agree.header ∙ readable)));
}

good_on : (a b : List ℕ) (at : ℕ) → length a ≡ length b → AgreeAt a b at → IsGoodHeader a at → IsGoodHeader b at
good_on a b at long agree good = record {
  fmag = λ inside. sym (fmag_same a b at agree.header) ∙ good.fmag (subst (λ (n : ℕ). at + 60 ≤ n) (sym long) inside);
  size = λ inside. ap is_number (sym (size_field_same a b at agree.header)) ∙ good.size (subst (λ (n : ℕ). at + 60 ≤ n) (sym long) inside);
  pad = λ odd inside.
      let was = ap (λ (n : ℕ). n % 2) (size_same a b at agree.header) ∙ odd in
      ap (slice_index b) (sym (end_same a b at agree.header))
      ∙ sym (agree.pad was)
      ∙ good.pad was (subst (λ (n : ℕ). n < length a) (sym (end_same a b at agree.header)) (subst (λ (n : ℕ). end_at b at < n) (sym long) inside));
}

module _ (a b : List ℕ) (agree : AgreeOutside a b) where
  headers_same : header_offsets a ≡ header_offsets b
  headers_same = walk_same a b agree.size (length a) 8 agree.each ∙ ap (λ (n : ℕ). header_offsets_from n b 8) agree.size

  stored : map bare (stored_members a) ≡ map bare (stored_members b)
  stored = stored_same a b agree.size (header_offsets a) agree.each ∙ ap (λ (ks : List ℕ). map bare (stored_at b ks)) headers_same

  index_same : index a ≡ index b
  index_same = index_bare (stored_members a) ∙ ap index_in stored ∙ sym (index_bare (stored_members b))

  entries_of_same : entries_of a ≡ entries_of b
  entries_of_same = ap (λ (o : Option (List IndexEntry)). unwrap_or o []) index_same

  pub entries_same : archive_entries a ≡ archive_entries b
  unfolding archive_entries
  entries_same = entries_of_same

  places_same : offsets_of (members a) ≡ offsets_of (members b)
  places_same = offsets_bare (stored_members a) ∙ ap (λ ms. offsets_of (ordinary ms)) stored ∙ sym (offsets_bare (stored_members b))

  count_same : length (members a) ≡ length (members b)
  count_same = sym (length-map (members a) (λ m. m.offset)) ∙ ap length places_same ∙ length-map (members b) (λ m. m.offset)

  pub unindexed_same : is_unindexed a ≡ is_unindexed b
  unfolding is_unindexed
  unindexed_same = (λ i. not (count_same i == 0) && not (is_some (index_same i)))

  there_same : (at : ℕ) → is_some (data_of (members a) at) ≡ is_some (data_of (members b) at)
  there_same at = there_by (members a) at ∙ ap (λ ks. list_any (λ k. k == at) ks) places_same ∙ sym (there_by (members b) at)

  each : (P Q : ℕ → Type 0) → ((at : ℕ) → AgreeAt a b at → P at → Q at) → All P (header_offsets a) → All Q (header_offsets b)
  each P Q on all =
      subst (All Q) headers_same
      (All-weaker (λ at. AgreeAt a b at × P at) Q (λ at both. on at both.0 both.1) (header_offsets a) (λ k d within. (agree.each k d within, all k d within)))

  good_index : HasGoodIndex a → HasGoodIndex b
  good_index good = record {
    first = first_from_bare (stored_members b) (subst IsIndexFirst stored (first_of_bare (stored_members a) good.first));
    form = form_from_bare (stored_members b) (subst HasIndexData stored (form_of_bare (stored_members a) good.form));
    entries =
        subst (All (NamesMember b)) entries_of_same
        (All-weaker (NamesMember a) (NamesMember b) (λ e names. sym (there_same e.offset) ∙ names) (entries_of a) good.entries);
  }

  pub archive_same : IsArchive a → IsArchive b
  archive_same is = record {
    magic = sym agree.magic ∙ is.magic;
    whole = each (IsWhole a) (IsWhole b) (λ at here. whole_on a b at agree.size here) is.whole;
    headers = each (IsGoodHeader a) (IsGoodHeader b) (λ at here. good_on a b at agree.size here) is.headers;
    index = good_index is.index;
    names = names_from_bare (stored_members b) (subst HasGoodNames stored (names_of_bare (stored_members a) is.names));
    size = subst (λ (n : ℕ). n < 2 ^ 32) agree.size is.size;
  }
