-- Lists whose entries must have known names, and no name twice.
use Rattle.std.proofs.Common.{◌≡◌, refl, sym, ◌∙◌, ap, subst, ℕ, ◌≤◌, ◌<◌, ◌-◌, ◌+◌, ◌==◌, ◌||◌, Bool, true, false}
use Rattle.std.proofs.Common.{List, [], ◌∷◌, ◌++◌, None, append_assoc, drop, suc, zero}
use Rattle.std.proofs.Common.{length, codes, get_or, if◌then◌else◌, not, option_copied, set, replicate, arith}
use Rattle.std.specs.Borrow.{Bor}
use Rattle.std.specs.Fmt.{HasWritten}
use Rattle.std.specs.declared.fmt.Formatter.{Formatter}
use Rattle.std.specs.List.{list_any, prefix_len}
use Rattle.std.proofs.Output.{has_written_append}
use Rattle.std.proofs.lemmas.Bool.{eqb-false, eqb-true}
use Rattle.std.proofs.lemmas.List.{at_drop_all, at_drop_more}
use Rattle.std.proofs.lemmas.List.{get_or-replicate, get_or-set_same, get_or-set_other, length-set}
use Rattle.std.proofs.lemmas.List.Sums.{prefix_len-le-length}
use Rattle.declarations.specs.EntryCheck.{HasNames, IsEntryError, IsRepeated, IsUnknown, IsWrong, Names, NamesEntry}
use Rattle.declarations.specs.EntryCheck.{StandsBefore}
use Rattle.declarations.specs.EntryCheck.{error_text, has_name, known_part, more, more_known, name_part}
use Rattle.declarations.specs.EntryCheck.{next_known, none, place_of}
use Rattle.pm_stream.specs.declared.stream.TokenTree.{TokenTree}
use Rattle.declarations.specs.Entry.{IsEntryAt, entry_spot}
use Rattle.declarations.specs.EntryList.{IsEntryListFault}
use Rattle.declarations.specs.Expected.{HasSigns}
use Rattle.declarations.specs.Fault.{message_at}
use Rattle.declarations.specs.List.{IsFirst}
use Rattle.declarations.specs.declared.entry.Entry.{Entry}
use Rattle.declarations.specs.declared.entry_check.EntryError.{EntryError}
use Rattle.declarations.specs.declared.entry_check.EntryProblem.TheVariants as problems
use Rattle.declarations.specs.declared.fault.Fault.{Fault}

-- the entries before the left trees have known names, and the positions of these names are marked as seen
pub record Checked (known : Names) (list left : List TokenTree) (seen : List Bool) : Type 0 where
  pub places : List ℕ
  pub names : HasNames known list places left
  pub fewer : length left ≤ length list
  pub room : length seen ≡ 128
  pub marks : (place : ℕ) → place < 128 → get_or seen place false ≡ list_any (λ other. other == place) places

pub checked_none : (known : Names) (list : List TokenTree) → Checked known list list (replicate 128 false)
checked_none known list = record {
  places = [];
  names = none;
  fewer = omega arith;
  room = refl;
  marks = λ place within. get_or-replicate 128 place false false within;
}

-- the position of a known name is less than the number of names
pub place_below : (known : Names) (entry : Entry) (place : ℕ) → place ≡ place_of known entry
    → (place ≡ length known → ⊥)
    → place < length known
place_below known entry place is other =
    let most = prefix_len-le-length (λ word. not (has_name entry word)) known in
    go (place == length known) refl most
  where
    go : (b : Bool) → (place == length known) ≡ b → place_of known entry ≤ length known → place < length known
    go true e most = absurd (other (eqb-true place (length known) e))
    go false e most = let apart = eqb-false place (length known) e in omega (arith, is, most, apart)

seen_marks : (seen : List Bool) (places : List ℕ) (at place : ℕ) → at < length seen
    → get_or seen place false ≡ list_any (λ other. other == place) places
    → get_or (set seen at true) place false ≡ list_any (λ other. other == place) (at ∷ places)
seen_marks seen places at place within before = go (at == place) refl
  where
    go : (b : Bool) → (at == place) ≡ b
        → get_or (set seen at true) place false ≡ (b || list_any (λ other. other == place) places)
    go true e =
        let same : at ≡ place = eqb-true at place e in
        subst (λ p. get_or (set seen at true) p false ≡ true) same (get_or-set_same seen at true false within)
    go false e =
        get_or-set_other seen at place true false (λ same. eqb-false at place e (sym same)) ∙ before

pub checked_more : (known : Names) (list left next : List TokenTree) (seen : List Bool) (entry : Entry) (place : ℕ)
    → Checked known list left seen → IsFirst IsEntryAt left entry next → length next < length left
    → place ≡ place_of known entry → (place ≡ length known → ⊥) → length known ≤ 128
    → get_or seen place false ≡ false
    → Checked known list next (set seen place true)
checked_more known list left next seen entry place c first fewer is other limit unseen =
    let below = place_below known entry place is other in
    let within : place < 128 = omega (arith, below, limit) in
    let before : length left ≤ length list = c.fewer in
    let room : length seen ≡ 128 = c.room in
    record {
      places = place ∷ c.places;
      names = subst (λ p. HasNames known list (p ∷ c.places) next) (sym is)
          (more c.places left next entry c.names first
          (subst (λ p. p < length known) is below)
          (subst (λ p. list_any (λ other. other == p) c.places ≡ false) is (sym (c.marks place within) ∙ unseen)));
      fewer = omega (arith, fewer, before);
      room = length-set seen place true ∙ room;
      marks = λ p h. seen_marks seen c.places place p (omega (arith, within, room)) (c.marks p h);
    }

pub unknown_first : (known : Names) (list left next : List TokenTree) (entry : Entry) (place : ℕ) (error : EntryError)
    → IsFirst IsEntryAt left entry next → StandsBefore list left entry error → place ≡ place_of known entry
    → place ≡ length known → NamesEntry error entry
    → IsUnknown known list left error
unknown_first known list left next entry place error first stands is all named =
    record { entry = entry; next = next; first = first; stands = stands; unknown = sym is ∙ all; named = named }

pub repeated_first : (known : Names) (list left next : List TokenTree) (seen : List Bool) (entry : Entry) (place : ℕ)
    (error : EntryError) → (c : Checked known list left seen) → IsFirst IsEntryAt left entry next
    → StandsBefore list left entry error
    → place ≡ place_of known entry → (place ≡ length known → ⊥) → length known ≤ 128
    → get_or seen place false ≡ true → NamesEntry error entry
    → IsRepeated known c.places list left error
repeated_first known list left next seen entry place error c first stands is other limit unseen named =
    let below = place_below known entry place is other in
    let within : place < 128 = omega (arith, below, limit) in
    record {
      entry = entry;
      next = next;
      first = first;
      stands = stands;
      known_name = subst (λ p. p < length known) is below;
      before = subst (λ p. list_any (λ other. other == p) c.places ≡ true) is (sym (c.marks place within) ∙ unseen);
      named = named;
    }

pub unknown_error : (known : Names) (list left next : List TokenTree) (seen : List Bool) (entry : Entry) (place : ℕ)
    (error : EntryError) → Checked known list left seen → IsFirst IsEntryAt left entry next
    → place ≡ place_of known entry
    → place ≡ length known → error.problem ≡ problems.Unknown → error.at ≡ length list - length left
    → error.span ≡ entry_spot left entry → NamesEntry error entry → error.known.now ≡ known
    → HasSigns error.expected (λ class. false) false
    → IsEntryError known list error
unknown_error known list left next seen entry place error c first is all problem at span named known_names
    signs = record {
      places = c.places;
      left = left;
      names = c.names;
      wrong = subst (λ p. IsWrong p known list c.places left error) (sym problem)
          (unknown_first known list left next entry place error first
          (record { counted = at; span = span; expected = signs }) is all named);
      kind_and_name = known_names;
    }

pub repeated_error : (known : Names) (list left next : List TokenTree) (seen : List Bool) (entry : Entry) (place : ℕ)
    (error : EntryError) → Checked known list left seen → IsFirst IsEntryAt left entry next
    → place ≡ place_of known entry
    → (place ≡ length known → ⊥) → length known ≤ 128 → get_or seen place false ≡ true
    → error.problem ≡ problems.Repeated → error.at ≡ length list - length left → error.span ≡ entry_spot left entry
    → NamesEntry error entry → error.known.now ≡ known → HasSigns error.expected (λ class. false) false
    → IsEntryError known list error
repeated_error known list left next seen entry place error c first is other limit seen_marks problem at span named
    known_names signs =
    record {
      places = c.places;
      left = left;
      names = c.names;
      wrong = subst (λ p. IsWrong p known list c.places left error) (sym problem)
          (repeated_first known list left next seen entry place error c first
          (record { counted = at; span = span; expected = signs }) is other limit seen_marks named);
      kind_and_name = known_names;
    }

pub no_entry_error : (known : Names) (list left : List TokenTree) (seen : List Bool) (fault : Fault)
    (error : EntryError)
    → Checked known list left seen → IsEntryListFault left fault → error.problem ≡ problems.NoEntry
    → error.at ≡ length list - length left + fault.at → error.span ≡ fault.span → error.expected ≡ fault.expected
    → error.name ≡ None → error.known.now ≡ known
    → IsEntryError known list error
no_entry_error known list left seen fault error c stands problem at span signs unnamed known_names = record {
  places = c.places;
  left = left;
  names = c.names;
  wrong = subst (λ p. IsWrong p known list c.places left error) (sym problem)
      (record { fault = fault; stands = stands; counted = at; span = span; expected = signs; unnamed = unnamed });
  kind_and_name = known_names;
}

-- ---- the position of a name

-- no name before this position is the entry's
abbrev PlaceFrom : Names → Entry → ℕ → Type 0
PlaceFrom known entry at =
    place_of known entry ≡ at + prefix_len (λ word. not (has_name entry word)) (drop at known)

module _ (known : Names) (entry : Entry) (at n : ℕ) (d : Bor (List ℕ)) (b : Bool) (same : at ≡ n)
    (from : PlaceFrom known entry at) (within : n < length known) (is : b ≡ has_name entry (get_or known n d)) where
  abbrev other : Bor (List ℕ) → Bool
  other word = not (has_name entry word)

  left : prefix_len other (drop n known) ≡ (if not b then 1 + prefix_len other (drop (n + 1) known) else 0)
  left =
      at_drop_more (prefix_len other) known n d within
      ∙ ap (λ x. if not x then 1 + prefix_len other (drop (n + 1) known) else 0) (sym is)

  start : place_of known entry ≡ n + prefix_len other (drop n known)
  start = subst (PlaceFrom known entry) same from

  -- the name here is the entry's
  pub place_here : b ≡ true → at ≡ place_of known entry
  place_here h =
      let none : prefix_len other (drop n known) ≡ 0 =
      left ∙ ap (λ x. if not x then 1 + prefix_len other (drop (n + 1) known) else 0) h in
      omega (arith, same, start, none)

  -- the name here is another
  pub place_on : b ≡ false → (at + 1 ≡ n + 1) × PlaceFrom known entry (at + 1)
  place_on h =
      let more : prefix_len other (drop n known) ≡ 1 + prefix_len other (drop (n + 1) known) =
      left ∙ ap (λ x. if not x then 1 + prefix_len other (drop (n + 1) known) else 0) h in
      let next : place_of known entry ≡ n + 1 + prefix_len other (drop (n + 1) known) = omega (arith, start, more) in
      (ap (λ x. x + 1) same, subst (PlaceFrom known entry) (ap (λ x. x + 1) (sym same)) next)

-- no name is the entry's
pub place_none : (known : Names) (entry : Entry) (at n : ℕ) → at ≡ n → PlaceFrom known entry at → length known ≤ n
    → at ≡ place_of known entry
place_none known entry at n same from all =
    let none : prefix_len (λ word. not (has_name entry word)) (drop at known) ≡ 0 =
    rw same (at_drop_all (prefix_len (λ word. not (has_name entry word))) known n all) in
    omega (arith, from, none)

-- ---- what is printed

-- the text of each kind of error
pub missing_text : (error : EntryError) → error.problem ≡ problems.NoEntry
    → message_at error.span error.expected ≡ error_text error
missing_text error e = rw e refl

pub unknown_text : (error : EntryError) → error.problem ≡ problems.Unknown
    → codes "unknown entry" ++ (name_part (option_copied error.name) ++ known_part error.known.now) ≡ error_text error
unknown_text error e = rw e refl

pub repeated_text : (error : EntryError) → error.problem ≡ problems.Repeated
    → codes "a second entry" ++ name_part (option_copied error.name) ≡ error_text error
repeated_text error e = rw e refl

more_at : (words : Names) (n : ℕ) (d : Bor (List ℕ)) → n < length words
    → more_known (drop n words) ≡ next_known (get_or words n d).now ++ more_known (drop (suc n) words)
more_at [] n d h = absurd (omega arith)
more_at (word ∷ words) zero d h = refl
more_at (word ∷ words) (suc n) d h = more_at words n d (omega arith)

pub more_written : {W : Type 0} (took : W → List ℕ → W → Type 0) (f g h : Formatter W) (words : Names) (n : ℕ)
    (d : Bor (List ℕ)) (done : List ℕ)
    → n < length words → HasWritten took f done g → HasWritten took g (next_known (get_or words n d).now) h
    → done ++ more_known (drop n words) ≡ more_known words
    → (now : List ℕ) × HasWritten took f now h × (now ++ more_known (drop (n + 1) words) ≡ more_known words)
more_written took f g h words n d done within p q e =
    let plus : suc n ≡ n + 1 = omega arith in
    let next = ap (λ k. next_known (get_or words n d).now ++ more_known (drop k words)) plus in (
      done ++ next_known (get_or words n d).now,
      has_written_append _ _ _ _ _ _ p q,
      append_assoc done (next_known (get_or words n d).now) (more_known (drop (n + 1) words))
          ∙ (ap (λ x. done ++ x) (sym (more_at words n d within ∙ next)) ∙ e),
    )
