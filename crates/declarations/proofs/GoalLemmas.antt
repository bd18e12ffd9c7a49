-- How far named rules read, and the loops over the paths of macro calls and of imports.
use Rattle.std.proofs.Common.{◌≡◌, refl, sym, ◌∙◌, Bool, true, false, List, [], ◌∷◌, length, ◌<◌}
use Rattle.std.proofs.Common.{arith}
use Rattle.grammars.specs.First.{may_begin}
use Rattle.grammars.specs.Grammar.{One, Sign, Then, To}
use Rattle.grammars.specs.Machine.{is_nullable}
use Rattle.std.specs.Prelude.{Result, Ok, Err}
use Rattle.std.specs.Borrow.{Bor}
use Rattle.pm_stream.specs.declared.stream.TokenTree.{TokenTree}
use Rattle.declarations.specs.Expected.{HasSigns}
use Rattle.declarations.specs.Explore.{Onward, Passes, Sees, SeparatesCall}
use Rattle.declarations.specs.Signs.{BeginsWith}
use Rattle.item_tables.specs.Classes.{is}
use Rattle.item_tables.specs.declared.class.SignClass.{SignClass}
use Rattle.item_tables.specs.declared.class.SignClass.TheVariants as signs
use Rattle.declarations.specs.declared.explore.Seen.{Seen}
use Rattle.declarations.specs.declared.syntax.Test.TheVariants as tests
use Rattle.declarations.specs.rules.Fronts.{is_segment}
use Rattle.declarations.specs.rules.Items.{call, use_path, use_segment}
use Rattle.declarations.specs.rules.Names.{Call, G, Name, one}
use Rattle.declarations.specs.rules.Rules.{rules}
use Rattle.declarations.proofs.ExploreLemmas.{none_seen}
use Rattle.declarations.proofs.ExplorePathLemmas.{step_goes}
use Rattle.declarations.proofs.FieldLemmas.{begins_as}
use Rattle.declarations.proofs.ReaderLemmas.{heads_none, heads_sign}
use Rattle.declarations.proofs.TreeLemmas.{or_nothing}

-- ---- a first sign that does not pass

-- a rule that needs a sign that passes the test sees no other sign
pub needs_sign : (test : SignClass → Bool) (trees rest : List TokenTree) (class : SignClass) (seen : Seen)
    → BeginsWith trees class rest → test class ≡ false → seen.left.now ≡ trees → HasSigns seen.next test false
    → (g : G) → ((c : SignClass) → may_begin g c ≡ test c) → is_nullable g ≡ false
    → Sees g trees seen
needs_sign test trees rest class seen b h l n g begins needs =
    none_seen g trees seen (heads_sign g trees rest class b ∙ (begins class ∙ h)) l
    (record { classes = λ c. n.classes c ∙ sym (begins c); end = n.end ∙ sym needs })

pub needs_some : (test : SignClass → Bool) (trees : List TokenTree) (seen : Seen) → trees ≡ [] → seen.left.now ≡ trees
    → HasSigns seen.next test false
    → (g : G) → ((c : SignClass) → may_begin g c ≡ test c) → is_nullable g ≡ false
    → Sees g trees seen
needs_some test trees seen e l n g begins needs =
    none_seen g trees seen (heads_none g trees e) l
    (record { classes = λ c. n.classes c ∙ sym (begins c); end = n.end ∙ sym needs })

-- ---- a sign that leads to a named rule

pub to_goes : (passes : SignClass → Bool) (n : Name) (trees rest : List TokenTree) (class : SignClass)
    → BeginsWith trees class rest → passes class ≡ true
    → Onward (To passes n) trees (rules n) rest
to_goes passes n trees rest class b h =
    (step_goes (To passes n) (rules n) trees rest class (One class ∷ []) b (rw h refl)).goes

pub to_seen : (passes : SignClass → Bool) (n : Name) (trees rest : List TokenTree) (class : SignClass) (seen : Seen)
    → BeginsWith trees class rest → passes class ≡ true → Sees (rules n) rest seen
    → Sees (To passes n) trees seen
to_seen passes n trees rest class seen b h s =
    to_goes passes n trees rest class b h seen.left.now seen.next s

-- ---- macro calls

-- `::` and a segment of the path
abbrev pub separated : G
separated = Then (one signs.PathSeparator) (To is_segment Call)

module _ (trees rest : List TokenTree) (class : SignClass) (b : BeginsWith trees class rest)
    (h : is signs.PathSeparator class ≡ true) where
  call_separator : Onward call trees (To is_segment Call) rest
  call_separator =
      (step_goes call (To is_segment Call) trees rest signs.PathSeparator (One signs.PathSeparator ∷ [])
      (begins_as trees rest signs.PathSeparator class b h) refl).goes

  pub separated_goes : Onward separated trees (To is_segment Call) rest
  separated_goes =
      (step_goes separated (To is_segment Call) trees rest signs.PathSeparator (One signs.PathSeparator ∷ [])
      (begins_as trees rest signs.PathSeparator class b h) refl).goes

  -- after `::` and a segment the call goes on as after a segment
  pub call_goes : (after : List TokenTree) (next : SignClass) → BeginsWith rest next after → is_segment next ≡ true
      → (length after < length trees) × Onward call trees call after
  call_goes after next c i = (
    let one = b.fewer in let two = c.fewer in omega arith,
    λ left set s. call_separator left set (to_goes is_segment Call rest after next c i left set s),
  )

separated_begins : (c : SignClass) → may_begin separated c ≡ is signs.PathSeparator c
separated_begins c = or_nothing (is signs.PathSeparator c) (is_segment c)

pub separated_needs : (trees : List TokenTree) (seen : Seen)
    → ((g : G) → ((c : SignClass) → may_begin g c ≡ is signs.PathSeparator c) → is_nullable g ≡ false
    → Sees g trees seen)
    → Sees separated trees seen
separated_needs trees seen f = f separated separated_begins refl

-- ---- imports

module _ (trees rest : List TokenTree) (class : SignClass) (b : BeginsWith trees class rest)
    (h : is_segment class ≡ true) where
  pub segment_goes : Onward use_path trees use_segment rest
  segment_goes = (step_goes use_path use_segment trees rest class (One class ∷ []) b (rw h refl)).goes

  -- after a segment and `::` the import goes on as at its beginning
  pub import_goes : (after : List TokenTree) (next : SignClass) → BeginsWith rest next after
      → is signs.PathSeparator next ≡ true
      → (length after < length trees) × Onward use_path trees use_path after
  import_goes after next c i = (
    let one = b.fewer in let two = c.fewer in omega arith,
    λ left set s. segment_goes left set
        ((step_goes use_segment use_path rest after signs.PathSeparator (One signs.PathSeparator ∷ [])
        (begins_as rest after signs.PathSeparator next c i) refl).goes left set s),
  )

-- the first alternative of an import, from a segment on
abbrev pub segmented : G
segmented = Then (Sign is_segment) use_segment

pub segmented_begins : (c : SignClass) → may_begin segmented c ≡ is_segment c
segmented_begins c = or_nothing (is_segment c) (may_begin use_segment c)

-- ---- loops

pub onward_self : (g : G) (trees : List TokenTree) → Onward g trees g trees
onward_self g trees left next s = s

pub onward_on : (g : G) (trees mid rest : List TokenTree) → Onward g trees g mid → Onward g mid g rest
    → Onward g trees g rest
onward_on g trees mid rest a b left next s = a left next (b left next s)

pub separates : (trees rest : List TokenTree) (class : SignClass) → BeginsWith trees class rest
    → is signs.PathSeparator class ≡ true → (result : Result (Bor (List TokenTree)) Seen)
    → Passes tests.ItemSegment rest result
    → SeparatesCall trees result
separates trees rest class b h (Ok after) p = call_goes trees rest class b h after.now p.0 p.1 p.2
separates trees rest class b h (Err seen) p =
    separated_goes trees rest class b h seen.left.now seen.next (p.1 (To is_segment Call) (λ c. refl) refl)
