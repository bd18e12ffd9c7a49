-- Lemmas on files that follow one another.
use Rattle.std.proofs.Common.{◌≡◌, ℕ, zero, suc, ◌+◌, ◌-◌, ◌<◌, ◌≤◌, ◌↔◌, List, [], ◌∷◌, ◌++◌, length, map, get_or}
use Rattle.std.proofs.Common.{Option, Some, None, refl, sym, ap, ap₂, subst, ◌∙◌, ◌≢◌, arith}
use Rattle.std.specs.Borrow.{Bor}
use Rattle.std.specs.Option.{unwrap_or, option_copied}
use Rattle.std.specs.List.Sorted.{IsNonDecreasingBy}
use Rattle.std.proofs.lemmas.List.{get_or_read, get_or_default}
use Rattle.pm_span.specs.Extent.{Extent, nowhere}
use Rattle.pm_span.specs.FileInfo.{MappedText}
use Rattle.pm_span.specs.Files.{Files, positions, IsFile, Holds}
use Rattle.pm_span.specs.CharOffset.{line_column, byte_offset}
use Rattle.pm_span.specs.Consecutive.{file_0, AreConsecutive, IsFileOf}
use Rattle.pm_span.proofs.FileLemmas.{positions-cons}

abbrev pub texts_of : List MappedText → List (List ℕ)
texts_of files = map (λ file. file.text) files

pub AreConsecutive-push :
    (position : ℕ) (files : List MappedText) (file : MappedText) → AreConsecutive position files
    → file.lo ≡ position + positions (texts_of files) → AreConsecutive position (files ++ file ∷ [])
AreConsecutive-push position [] file h e = (omega arith, tt)
AreConsecutive-push position (f ∷ files) file h e = (
  h.0,
  AreConsecutive-push (position + (length f.text + 1)) files file h.1
      (omega (arith, positions-cons f.text (texts_of files))),
)

-- one more file takes one position more than it has characters
pub positions-push :
    (files : List MappedText) (file : MappedText)
    → positions (texts_of (files ++ file ∷ [])) ≡ positions (texts_of files) + (length file.text + 1)
positions-push [] file = omega (arith, positions-cons file.text [])
positions-push (f ∷ files) file =
    omega (
      arith,
      positions-push files file,
      positions-cons f.text (texts_of files),
      positions-cons f.text (texts_of (files ++ file ∷ [])),
    )

-- each file begins where the files before it end
pub begins_at :
    (position : ℕ) (files : List MappedText) (i : ℕ) (d : MappedText) → AreConsecutive position files
    → i < length files
    → (before : List (List ℕ)) × (after : List (List ℕ))
    × (texts_of files ≡ before ++ ((get_or files i d).text ∷ after))
    × ((get_or files i d).lo ≡ position + positions before)
begins_at position [] i d h less = absurd (omega arith)
begins_at position (file ∷ files) zero d h less = ([], texts_of files, refl, omega arith)
begins_at position (file ∷ files) (suc i) d h less =
    let more = begins_at (position + (length file.text + 1)) files i d h.1 (omega arith) in (
      file.text ∷ more.0,
      more.1,
      ap (λ ts. file.text ∷ ts) more.2,
      omega (arith, more.3, positions-cons file.text more.0),
    )

-- the last file ends before the next one would begin
pub last_end :
    (position : ℕ) (files : List MappedText) (i : ℕ) (d : MappedText) → AreConsecutive position files
    → length files ≡ i + 1
    → (get_or files i d).lo + length (get_or files i d).text + 1 ≡ position + positions (texts_of files)
last_end position [] i d h e = absurd (omega arith)
last_end position (file ∷ []) zero d h e = omega arith
last_end position (file ∷ f ∷ files) zero d h e = absurd (omega arith)
last_end position (file ∷ files) (suc i) d h e =
    omega (
      arith,
      last_end (position + (length file.text + 1)) files i d h.1 (omega arith),
      positions-cons file.text (texts_of files),
    )

begins_past :
    (position : ℕ) (files : List MappedText) (i : ℕ) (d : MappedText) → AreConsecutive position files
    → i < length files → position ≤ (get_or files i d).lo
begins_past position files i d h less = omega (arith, (begins_at position files i d h less).3)

-- the starts of the files ascend
pub rising : (position : ℕ) (files : List MappedText) → AreConsecutive position files
    → IsNonDecreasingBy (λ file. file.lo) files
rising position [] h i j d le less = absurd (omega arith)
rising position (file ∷ files) h zero j d le less = omega (arith, begins_past position (file ∷ files) j d h less)
rising position (file ∷ files) h (suc i) zero d le less = absurd (omega arith)
rising position (file ∷ files) h (suc i) (suc j) d le less =
    rising (position + (length file.text + 1)) files h.1 i j d (omega arith) (omega arith)

-- in `file ∷ files`, if the first n of `files` begin at or before the position, only the file at n can have it
only_at :
    (file : MappedText) (files : List MappedText) (n position : ℕ) (d : MappedText) (before after : List (List ℕ))
    (text : List ℕ)
    → AreConsecutive (file.lo + (length file.text + 1)) files → n ≤ length files
    → ((j : ℕ) (e : MappedText) → j < n → (get_or files j e).lo ≤ position)
    → ((j : ℕ) (e : MappedText) → n ≤ j → j < length files → position < (get_or files j e).lo)
    → file.text ∷ texts_of files ≡ before ++ (text ∷ after) → file.lo + positions before ≤ position
    → position ≤ file.lo + positions before + length text
    → (text ≡ (get_or (file ∷ files) n d).text) × (file.lo + positions before ≡ (get_or (file ∷ files) n d).lo)
    × (length before ≡ n)
only_at file files zero position d [] after text h bound below above e from to = (cc, omega arith, refl)
only_at file [] (suc n) position d [] after text h bound below above e from to = absurd (omega arith)
only_at file (f ∷ files) (suc n) position d [] after text h bound below above e from to =
    let same : file.text ≡ text = cc in
    absurd (omega (arith, below 0 f (omega arith), h.0, ap length same))
only_at file [] n position d (t ∷ []) after text h bound below above e from to = absurd (cc)
only_at file [] n position d (t ∷ u ∷ ts) after text h bound below above e from to = absurd (cc)
only_at file (f ∷ files) zero position d (t ∷ ts) after text h bound below above e from to =
    let same : file.text ≡ t = cc in
    absurd (omega (arith, above 0 f (omega arith) (omega arith), h.0, ap length same, positions-cons t ts))
only_at file (f ∷ files) (suc n) position d (t ∷ ts) after text h bound below above e from to =
    let same : file.text ≡ t = cc in
    let k : f.lo + positions ts ≡ file.lo + positions (t ∷ ts) =
    omega (arith, h.0, ap length same, positions-cons t ts) in
    let consecutive : AreConsecutive (f.lo + (length f.text + 1)) files =
    subst (λ p. AreConsecutive (p + (length f.text + 1)) files) (sym h.0) h.1 in
    let rest = only_at f files n position d ts after text consecutive (omega arith)
    (λ j e less. below (suc j) e (omega arith)) (λ j e le less. above (suc j) e (omega arith) (omega arith))
    (cc) (omega arith) (omega arith) in
    (rest.0, sym k ∙ rest.1, omega (arith, rest.2))

-- the last file that begins at or before the position is the only one that can have it
pub file_found :
    (limit : ℕ) (files : List MappedText) (n position : ℕ) (d : MappedText) → AreConsecutive 1 files
    → n ≤ length files → ((j : ℕ) (e : MappedText) → j < n → (get_or files j e).lo ≤ position)
    → ((j : ℕ) (e : MappedText) → n ≤ j → j < length files → position < (get_or files j e).lo)
    → IsFileOf (record { texts = texts_of files; limit = limit }) position n (get_or (file_0 ∷ files) n d)
file_found limit files n position d h bound below above = record {
  is_file = (is_file n bound);
  begins = (begins n bound below);
  only = λ text lo file from to.
      let same = only_at file_0 files n position d file.before file.after text h bound below above file.whole
      (omega (arith, file.begins)) (omega (arith, file.begins)) in
      (same.0, omega (arith, file.begins, same.1), same.2);
}
  where
    is_file :
        (n : ℕ) → n ≤ length files
        → IsFile (record { texts = texts_of files; limit = limit }) (get_or (file_0 ∷ files) n d).text
        (get_or (file_0 ∷ files) n d).lo
    is_file zero bound = record { before = []; after = texts_of files; whole = refl; begins = refl }
    is_file (suc n) bound =
        let at = begins_at 1 files n d h (omega arith) in
        record {
          before = [] ∷ at.0;
          after = at.1;
          whole = ap (λ ts. [] ∷ ts) at.2;
          begins = omega (arith, at.3, positions-cons [] at.0);
        }

    begins :
        (n : ℕ) → n ≤ length files → ((j : ℕ) (e : MappedText) → j < n → (get_or files j e).lo ≤ position)
        → (get_or (file_0 ∷ files) n d).lo ≤ position
    begins zero bound below = omega arith
    begins (suc n) bound below = below n d (omega arith)

-- the element before the index n, if n is not 0
pub get_or_before : {X : Type 0} (xs : List X) (n : ℕ) (x d : X) → (n ≡ 0 → ⊥) → n ≤ length xs → x ≡ get_or xs (n - 1) x
    → x ≡ get_or (d ∷ xs) n d
get_or_before xs zero x d some bound e = absurd (some refl)
get_or_before xs (suc n) x d some bound e =
    let i : suc n - 1 ≡ n = omega arith in
    get_or_read xs n x (omega arith) (e ∙ ap (λ j. get_or xs j x) i) d

-- the last file is found if it begins at or before the position
pub last_found :
    {map : Files} {files slice : List MappedText} {last : MappedText} (limit position : ℕ) → slice ≡ files
    → record { texts = texts_of files; limit = limit } ≡ map → AreConsecutive 1 files → 0 < length slice
    → last ≡ get_or slice (length slice - 1) last → last.lo ≤ position → IsFileOf map position (length files) last
last_found {map} {files} {slice} {last} limit position same view consecutive some is begins =
    let at : last ≡ get_or files (length files - 1) last =
    is ∙ ap (λ xs. get_or xs (length xs - 1) last) same in
    let few : 0 < length files = omega (arith, ap length same) in
    let last_begins : (d : MappedText) → (get_or files (length files - 1) d).lo ≤ position =
    λ d. omega (
      arith,
      begins,
      ap (λ file. file.lo) at,
      ap (λ file. file.lo) (get_or_default files (length files - 1) d last (omega arith)),
    ) in
    let here = file_found limit files (length files) position file_0 consecutive (omega arith)
    (λ j e less. omega (
      arith,
      rising 1 files consecutive j (length files - 1) e (omega arith) (omega arith),
      last_begins e,
    ))
    (λ j e le less. absurd (omega arith)) in
    subst (λ m. IsFileOf m position (length files) last) view
    (subst (λ f. IsFileOf (record { texts = texts_of files; limit = limit }) position (length files) f)
    (sym (get_or_before files (length files) last file_0 (λ none. omega (arith, none)) (omega arith) at)) here)

-- the result of the search is file 0 if it is `None`
pub found_none :
    {map : Files} {p q number : ℕ} {file : Option (Bor MappedText)} → p ≡ q → file ≡ None
    → IsFileOf map p number (unwrap_or (option_copied file) file_0) → IsFileOf map q number file_0
found_none {map} {p} {q} {number} same is found =
    subst (λ r. IsFileOf map r number file_0) same
    (subst (λ o. IsFileOf map p number (unwrap_or (option_copied o) file_0)) is found)

pub found_some :
    {map : Files} {p q number : ℕ} {file : Option (Bor MappedText)} {some : Bor MappedText} → p ≡ q → file ≡ Some some
    → IsFileOf map p number (unwrap_or (option_copied file) file_0) → IsFileOf map q number some.now
found_some {map} {p} {q} {number} {file} {some} same is found =
    subst (λ r. IsFileOf map r number some.now) same
    (subst (λ o. IsFileOf map p number (unwrap_or (option_copied o) file_0)) is found)

-- the map holds a span exactly if the file found for its start also has its end
pub holds_at :
    {map : Files} {number : ℕ} {file : MappedText} (span : Extent) → IsFileOf map span.lo number file
    → span.lo ≤ span.hi
    → (span.hi ≤ file.lo + length file.text) ↔ Holds map span
holds_at {map} {number} {file} span found ordered = (
  λ to. record { text = file.text; lo = file.lo; file = found.is_file; from = found.begins; to = to },
  λ held.
      let same = found.only held.text held.lo held.file held.from (omega (arith, held.to)) in
      omega (arith, held.to, ap length same.0, same.1),
)

-- what is true of the file that was found is true of each file that has the span
pub of_each :
    {map : Files} {number : ℕ} {file : MappedText} (span : Extent) (P : ℕ → List ℕ → ℕ → Type 0)
    → IsFileOf map span.lo number file → span.lo ≤ span.hi → P number file.text file.lo
    → (text : List ℕ) (lo : ℕ) (other : IsFile map text lo) → lo ≤ span.lo → span.hi ≤ lo + length text
    → P (length other.before) text lo
of_each {map} {number} {file} span P found ordered here text lo other from to =
    let same = found.only text lo other from (omega arith) in
    subst (λ n. P n text lo) (sym same.2)
    (subst (λ t. P number t lo) (sym same.0) (subst (λ l. P number file.text l) (sym same.1) here))

abbrev extent_of : ℕ → ℕ → Extent
extent_of lo hi = record { lo = lo; hi = hi }

-- file 0 has the span 0..0 and no other
pub in_file_0 :
    {map : Files} {number : ℕ} (span : Extent) → IsFileOf map span.lo number file_0 → span.lo ≤ span.hi → Holds map span
    → span ≡ nowhere
in_file_0 span found ordered held =
    let within = (holds_at span found ordered).1 held in
    ap₂ extent_of (omega arith) (omega arith)

pub past_file_0 :
    {map : Files} {number : ℕ} {file : MappedText} (span : Extent) → IsFileOf map span.lo number file → 0 < number
    → span ≢ nowhere
past_file_0 {map} span found past same =
    let lo = ap (λ s. s.lo) same in
    let zero = found.only [] 0 (record { before = []; after = map.texts; whole = refl; begins = refl }) (omega arith)
    (omega arith) in
    omega (arith, zero.2)

-- look-ups in file 0
pub line_column-nil : (k : ℕ) → record { line = 1; column = 0 } ≡ line_column [] k
line_column-nil zero = refl
line_column-nil (suc k) = refl

pub byte_offset-nil : (k : ℕ) → 0 ≡ byte_offset [] k
byte_offset-nil zero = refl
byte_offset-nil (suc k) = refl
