-- The positions of a map's files, and the files that are found by them.
use Rattle.std.proofs.Common.{◌≡◌, ℕ, zero, suc, ◌+◌, ◌-◌, ◌<◌, ◌≤◌, List, [], ◌∷◌, ◌++◌, length, get_or, leb}
use Rattle.std.proofs.Common.{true, false}
use Rattle.std.proofs.Common.{inl, inr, refl, sym, ap, subst, ◌∙◌, arith}
use Rattle.std.specs.List.{IsLastAndRest}
use Rattle.std.specs.List.Sorted.{IsNonDecreasingBy, IsPartitionedBy, IsPartitionPoint}
use Rattle.std.proofs.lemmas.Bool.{cases_lt, leb-true, leb-false}
use Rattle.std.proofs.lemmas.List.{length-map, get_or-map, get_or_append_left, get_or_push}
use Rattle.std.proofs.lemmas.List.Sorted.{IsPartitionedBy-leb}
use Rattle.pm_span.specs.FileInfo.{MappedText}
use Rattle.pm_span.specs.Files.{Files}
use Rattle.pm_span.specs.Consecutive.{file_0, place_of, places_of, AreBegun, AreConsecutive, IsFileOf}
use Rattle.pm_span.specs.declared.source_map.FileRange.{FileRange}
use Rattle.pm_span.proofs.ConsecutiveLemmas.{texts_of, rising, file_found}

-- the list has a last element, after the rest
record IsCut (places rest : List FileRange) (last : FileRange) : Type 0 where
  whole : places ≡ rest ++ (last ∷ [])
  size : length rest + 1 ≡ length places

cut_of : (places rest : List FileRange) (last : FileRange) → IsLastAndRest places last rest → IsCut places rest last
cut_of places rest last cut = record { whole = cut.0; size = cut.1 }

last_is : {places rest : List FileRange} {last : FileRange} → IsCut places rest last → (k : ℕ) (d : FileRange)
    → length rest ≡ k
    → get_or places k d ≡ last
last_is {places} {rest} {last} cut k d is = ap (λ ps. get_or ps k d) cut.whole ∙ get_or_push rest last d k is

rest_is : {places rest : List FileRange} {last : FileRange} → IsCut places rest last → (k : ℕ) (d : FileRange)
    → k < length rest
    → get_or places k d ≡ get_or rest k d
rest_is {places} {rest} {last} cut k d less =
    ap (λ ps. get_or ps k d) cut.whole ∙ get_or_append_left rest (last ∷ []) d k less

-- if the last file begins at or before the position, all files do
pub all_begun :
    {places : List FileRange} {position n : ℕ} (rest : List FileRange) (last : FileRange)
    → IsLastAndRest places last rest
    → IsNonDecreasingBy (λ place. place.lo) places → last.lo ≤ position → n ≡ length places
    → AreBegun places position n
all_begun {places} {position} {n} rest last parts up begins is =
    let cut = cut_of places rest last parts in
    record {
      within = omega (arith, is);
      before = λ k d less. omega (
        arith,
        up k (length rest) d (omega (arith, cut.size, is)) (omega (arith, cut.size)),
        ap (λ place. place.lo) (last_is cut (length rest) d refl),
        begins,
      );
      after = λ k d le less. absurd (omega (arith, is));
    }

-- if the last file begins after the position, the search in the others gives the answer
pub some_begun :
    {places : List FileRange} {n : ℕ} (rest : List FileRange) (last : FileRange) (position : ℕ)
    → IsLastAndRest places last rest
    → IsNonDecreasingBy (λ place. place.lo) places → position < last.lo → n ≤ length rest
    → (IsPartitionedBy (λ place. leb place.lo position) rest
    → IsPartitionPoint (λ place. leb place.lo position ≡ true) (λ place. leb place.lo position ≡ false) rest n)
    → AreBegun places position n
some_begun {places} {n} rest last position parts up past bound search_rest =
    let cut = cut_of places rest last parts in
    let rest_up : IsNonDecreasingBy (λ place. place.lo) rest = λ i j d le less. omega (
      arith,
      up i j d le (omega (arith, cut.size)),
      ap (λ place. place.lo) (rest_is cut i d (omega arith)),
      ap (λ place. place.lo) (rest_is cut j d less),
    ) in
    let point : IsPartitionPoint (λ place. leb place.lo position ≡ true) (λ place. leb place.lo position ≡ false) rest n
    = search_rest (IsPartitionedBy-leb (λ place. place.lo) rest position rest_up) in
    record {
      within = omega (arith, cut.size);
      before = λ k d less. omega (
        arith,
        leb-true _ _ (point.0 k d (omega arith) less),
        ap (λ place. place.lo) (rest_is cut k d (omega arith)),
      );
      after = λ k d le less. elim (cases_lt k (length rest)) [
        | inl inside ↦ omega (
          arith,
          leb-false _ _ (point.1 k d le inside),
          ap (λ place. place.lo) (rest_is cut k d inside),
        )
        | inr end ↦ omega (arith, past, ap (λ place. place.lo) (last_is cut k d (omega (arith, cut.size))))
      ];
    }

-- the starts of the files ascend
pub places_rising :
    (files : List MappedText) {places slice : List FileRange} → slice ≡ places → places ≡ places_of files
    → AreConsecutive 1 files → IsNonDecreasingBy (λ place. place.lo) slice
places_rising files {places} {slice} whole taken consecutive =
    subst (IsNonDecreasingBy (λ place. place.lo)) (sym (whole ∙ taken)) (λ i j d le less.
    let inside : j < length files = omega (arith, length-map files place_of) in
    omega (
      arith,
      ap (λ place. place.lo) (get_or-map place_of files i file_0 d (omega arith)),
      ap (λ place. place.lo) (get_or-map place_of files j file_0 d inside),
      rising 1 files consecutive i j file_0 le inside,
    ))

-- the search finds the only file that can have the position
pub found_at :
    {m : Files} {places slice : List FileRange} {n : ℕ} (files : List MappedText) (limit position : ℕ)
    → record { texts = texts_of files; limit = limit } ≡ m → slice ≡ places → places ≡ places_of files
    → AreConsecutive 1 files → AreBegun slice position n
    → IsFileOf m position n (get_or (file_0 ∷ files) n file_0) × (n ≤ length files)
found_at {m} {places} {slice} {n} files limit position view whole taken consecutive begun_slice =
    let begun : AreBegun (places_of files) position n =
    subst (λ ps. AreBegun ps position n) (whole ∙ taken) begun_slice in
    let bound : n ≤ length files = omega (arith, begun.within, length-map files place_of) in (
      subst (λ map. IsFileOf map position n (get_or (file_0 ∷ files) n file_0)) view
          (file_found limit files n position file_0 consecutive bound
          (λ j x less. omega (
            arith,
            begun.before j (place_of x) less,
            ap (λ place. place.lo) (get_or-map place_of files j x (place_of x) (omega arith)),
          ))
          (λ j x le less. omega (
            arith,
            begun.after j (place_of x) le (omega (arith, length-map files place_of)),
            ap (λ place. place.lo) (get_or-map place_of files j x (place_of x) less),
          ))),
      bound,
    )

-- the positions before the index n are those of the file before it
pub place_at :
    {places : List FileRange} {place : FileRange} (files : List MappedText) (n : ℕ) → places ≡ places_of files
    → (n ≡ 0 → ⊥)
    → n ≤ length files → place ≡ get_or places (n - 1) place → place ≡ place_of (get_or (file_0 ∷ files) n file_0)
place_at files zero taken some bound is = absurd (some refl)
place_at {places} {place} files (suc m) taken some bound is =
    let i : suc m - 1 ≡ m = omega arith in
    is ∙ (ap (λ j. get_or places j place) i ∙ (ap (λ ps. get_or ps m place) taken
    ∙ get_or-map place_of files m file_0 place (omega arith)))
