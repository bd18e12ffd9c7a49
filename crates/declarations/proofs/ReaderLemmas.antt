-- Steps of functions that read by rules: one lemma for each word of which grammars are made.
use Rattle.std.proofs.Common.{◌≡◌, refl, sym, ◌∙◌, ap, ◌≤◌, Bool, true, false, ◌&&◌, ◌||◌, List, [], ◌∷◌, ◌++◌}
use Rattle.std.proofs.Common.{ℕ, ◌-◌, Option, append_assoc, append-nil, drop, length, arith}
use Rattle.std.proofs.lemmas.Bool.{or_right}
use Rattle.std.proofs.lemmas.List.{length-append}
use Rattle.std.proofs.Math.Seq.{drop-append_seam}
use Rattle.std.specs.Prelude.{Result, Ok, Err}
use Rattle.std.specs.Borrow.{Bor}
use Rattle.grammars.specs.Grammar.{Nothing, Sign, Mark, Then, Either, One, Marked, perhaps}
use Rattle.grammars.specs.Machine.{is_nullable, marks_of_nothing}
use Rattle.grammars.specs.First.{heads, may_begin}
use Rattle.grammars.specs.Find.{front}
use Rattle.grammars.proofs.WordLemmas.{find_first, find_lacks, find_mark, find_other, find_sign, find_skips, find_then}
use Rattle.pm_span.specs.Extent.{Extent}
use Rattle.pm_stream.specs.declared.stream.TokenTree.{TokenTree}
use Rattle.declarations.specs.Fault.{extent_at, first_extent}
use Rattle.declarations.specs.Signs.{BeginsWith, classes_of, signs, trees_of}
use Rattle.declarations.specs.Reader.{Finds, Remains, ReadsRule, Sticks, classes_in}
use Rattle.item_tables.specs.declared.class.SignClass.{SignClass}
use Rattle.declarations.specs.rules.Names.{G, Label, Name}
use Rattle.declarations.specs.rules.Rules.{rules}
use Rattle.declarations.proofs.ReadingLemmas.{trees-append}

-- ---- the first sign

pub remains_self : (trees : List TokenTree) → Remains trees trees
remains_self trees = record { front = []; read = refl; whole = refl }

pub remains_on : (trees mid rest : List TokenTree) → Remains mid trees → Remains rest mid → Remains rest trees
remains_on trees mid rest a b = record {
  front = a.front ++ b.front;
  read = a.read ∙ ap (λ ss. a.front ++ ss) b.read ∙ sym (append_assoc a.front b.front (signs rest));
  whole = a.whole ∙ ap (λ ts. trees_of a.front ++ ts) b.whole
      ∙ sym (append_assoc (trees_of a.front) (trees_of b.front) rest)
      ∙ ap (λ ts. ts ++ rest) (sym (trees-append a.front b.front));
}

pub remains_within : (trees rest : List TokenTree) → Remains rest trees → length rest ≤ length trees
remains_within trees rest b = let sum = ap length b.whole ∙ length-append (trees_of b.front) rest in omega arith

-- the trees are what comes before the rest, and the rest
pub remains_whole : (trees rest : List TokenTree) → Remains rest trees
    → (front : List TokenTree) × (trees ≡ front ++ rest) × (length rest ≤ length trees)
remains_whole trees rest b = (trees_of b.front, b.whole, remains_within trees rest b)

-- the span of the first tree of the rest
pub remains_span : (trees left : List TokenTree) (at : ℕ) (span : Option Extent) → Remains left trees
    → at ≡ length trees - length left → span ≡ first_extent left
    → span ≡ extent_at trees at
remains_span trees left at span b counted first =
    let sum = ap length b.whole ∙ length-append (trees_of b.front) left in
    let count : length (trees_of b.front) ≡ at = omega arith in
    first ∙ ap first_extent (sym (drop-append_seam (trees_of b.front) left)
    ∙ ap (λ n. drop n (trees_of b.front ++ left)) count ∙ ap (drop at) (sym b.whole))

pub remains_sign : (trees rest : List TokenTree) (class : SignClass) → BeginsWith trees class rest → Remains rest trees
remains_sign trees rest class b = record {
  front = record { class = class; trees = b.front } ∷ [];
  read = b.read;
  whole = b.whole ∙ ap (λ ts. ts ++ rest) (sym (append-nil b.front));
}

pub classes_sign : (trees rest : List TokenTree) (class : SignClass) → BeginsWith trees class rest
    → classes_in trees ≡ class ∷ classes_in rest
unfolding classes_in
classes_sign trees rest class b = ap classes_of b.read

classes_none : (trees : List TokenTree) → trees ≡ [] → classes_in trees ≡ []
unfolding classes_in
classes_none trees e = rw e refl

-- ---- what can begin

pub heads_sign : (g : G) (trees rest : List TokenTree) (class : SignClass) → BeginsWith trees class rest
    → heads g (classes_in trees) ≡ may_begin g class
heads_sign g trees rest class b = rw (classes_sign trees rest class b) refl

pub test_heads : (g : G) (trees rest : List TokenTree) (class : SignClass) (test : Bool) → BeginsWith trees class rest
    → test ≡ may_begin g class
    → test ≡ heads g (classes_in trees)
test_heads g trees rest class test b h = h ∙ sym (heads_sign g trees rest class b)

pub heads_none : (g : G) (trees : List TokenTree) → trees ≡ [] → heads g (classes_in trees) ≡ false
heads_none g trees e = rw (classes_none trees e) refl

pub heads_nothing : (cs : List SignClass) → heads {N = Name} {L = Label} Nothing cs ≡ false
heads_nothing [] = refl
heads_nothing (c ∷ cs) = refl

pub heads_mark : (l : Label) (cs : List SignClass) → heads {N = Name} (Mark l) cs ≡ false
heads_mark l [] = refl
heads_mark l (c ∷ cs) = refl

pub heads_either : (a b : G) (cs : List SignClass) → heads (Either a b) cs ≡ (heads a cs || heads b cs)
heads_either a b [] = refl
heads_either a b (c ∷ cs) = refl

pub heads_then : (a b : G) (cs : List SignClass) → heads (Then a b) cs ≡ (heads a cs || is_nullable a && heads b cs)
heads_then a b [] = go (is_nullable a)
  where
    go : (e : Bool) → false ≡ (e && false)
    go true = refl
    go false = refl
heads_then a b (c ∷ cs) = refl

-- ---- one sign

pub sign_finds : (passes : SignClass → Bool) (trees rest : List TokenTree) (class : SignClass)
    → BeginsWith trees class rest
    → passes class ≡ true
    → Finds (Sign passes) trees rest
sign_finds passes trees rest class b h = record {
  events = One class ∷ [];
  found = rw (classes_sign trees rest class b) (find_sign rules passes class (classes_in rest) h);
  remains = remains_sign trees rest class b;
}

pub lacks : (g : G) (trees : List TokenTree) → heads g (classes_in trees) ≡ false → is_nullable g ≡ false
    → Sticks g trees trees
lacks g trees h e = record { stuck = find_lacks rules g (classes_in trees) h e; remains = remains_self trees }

pub sign_sticks : (passes : SignClass → Bool) (trees rest : List TokenTree) (class : SignClass)
    → BeginsWith trees class rest
    → passes class ≡ false
    → Sticks (Sign passes) trees trees
sign_sticks passes trees rest class b h =
    lacks (Sign passes) trees (heads_sign (Sign passes) trees rest class b ∙ h) refl

pub sign_ends : (passes : SignClass → Bool) (trees : List TokenTree) → trees ≡ [] → Sticks (Sign passes) trees trees
sign_ends passes trees e = lacks (Sign passes) trees (heads_none (Sign passes) trees e) refl

-- ---- sequences

pub then_finds : (a b : G) (trees mid rest : List TokenTree) → Finds a trees mid → Finds b mid rest
    → Finds (Then a b) trees rest
then_finds a b trees mid rest h j = record {
  events = h.events ++ j.events;
  found = find_then rules a b (classes_in trees) ∙ rw h.found (ap (front h.events) j.found);
  remains = remains_on trees mid rest h.remains j.remains;
}

pub then_fails : (a b : G) (trees mid left : List TokenTree) → Finds a trees mid → Sticks b mid left
    → Sticks (Then a b) trees left
then_fails a b trees mid left h j = record {
  stuck = find_then rules a b (classes_in trees) ∙ rw h.found (ap (front h.events) j.stuck);
  remains = remains_on trees mid left h.remains j.remains;
}

pub then_sticks : (a b : G) (trees left : List TokenTree) → Sticks a trees left → Sticks (Then a b) trees left
then_sticks a b trees left h = record {
  stuck = find_then rules a b (classes_in trees) ∙ rw h.stuck refl;
  remains = h.remains;
}

pub then_reads : (a b : G) (trees mid : List TokenTree) (result : Result (Bor (List TokenTree)) (Bor (List TokenTree)))
    → Finds a trees mid → ReadsRule b mid result
    → ReadsRule (Then a b) trees result
then_reads a b trees mid (Ok rest) h j = then_finds a b trees mid rest.now h j
then_reads a b trees mid (Err left) h j = then_fails a b trees mid left.now h j

-- ---- marks

pub mark_finds_here : (l : Label) (trees : List TokenTree) → Finds (Mark l) trees trees
mark_finds_here l trees = record {
  events = Marked l ∷ [];
  found = find_mark rules l (classes_in trees);
  remains = remains_self trees;
}

pub mark_finds : (l : Label) (b : G) (trees rest : List TokenTree) → Finds b trees rest
    → Finds (Then (Mark l) b) trees rest
mark_finds l b trees rest h = then_finds (Mark l) b trees trees rest (mark_finds_here l trees) h

pub mark_sticks : (l : Label) (b : G) (trees left : List TokenTree) → Sticks b trees left
    → Sticks (Then (Mark l) b) trees left
mark_sticks l b trees left h = then_fails (Mark l) b trees trees left (mark_finds_here l trees) h

pub mark_reads : (l : Label) (b : G) (trees : List TokenTree)
    (result : Result (Bor (List TokenTree)) (Bor (List TokenTree))) → ReadsRule b trees result
    → ReadsRule (Then (Mark l) b) trees result
mark_reads l b trees result h = then_reads (Mark l) b trees trees result (mark_finds_here l trees) h

-- ---- choices

pub first_finds : (a b : G) (trees rest : List TokenTree) → heads a (classes_in trees) ≡ true → Finds a trees rest
    → Finds (Either a b) trees rest
first_finds a b trees rest e h = record {
  events = h.events;
  found = find_first rules a b (classes_in trees) e ∙ h.found;
  remains = h.remains;
}

pub first_sticks : (a b : G) (trees left : List TokenTree) → heads a (classes_in trees) ≡ true → Sticks a trees left
    → Sticks (Either a b) trees left
first_sticks a b trees left e h =
    record { stuck = find_first rules a b (classes_in trees) e ∙ h.stuck; remains = h.remains }

pub first_reads : (a b : G) (trees : List TokenTree) (result : Result (Bor (List TokenTree)) (Bor (List TokenTree)))
    → heads a (classes_in trees) ≡ true → ReadsRule a trees result
    → ReadsRule (Either a b) trees result
first_reads a b trees (Ok rest) e h = first_finds a b trees rest.now e h
first_reads a b trees (Err left) e h = first_sticks a b trees left.now e h

pub other_finds : (a b : G) (trees rest : List TokenTree) → heads a (classes_in trees) ≡ false
    → is_nullable a ≡ false → Finds b trees rest
    → Finds (Either a b) trees rest
other_finds a b trees rest d e h = record {
  events = h.events;
  found = find_other rules a b (classes_in trees) d e ∙ h.found;
  remains = h.remains;
}

pub other_sticks : (a b : G) (trees left : List TokenTree) → heads a (classes_in trees) ≡ false
    → is_nullable a ≡ false → Sticks b trees left
    → Sticks (Either a b) trees left
other_sticks a b trees left d e h =
    record { stuck = find_other rules a b (classes_in trees) d e ∙ h.stuck; remains = h.remains }

pub other_reads : (a b : G) (trees : List TokenTree) (result : Result (Bor (List TokenTree)) (Bor (List TokenTree)))
    → heads a (classes_in trees) ≡ false → is_nullable a ≡ false → ReadsRule b trees result
    → ReadsRule (Either a b) trees result
other_reads a b trees (Ok rest) d e h = other_finds a b trees rest.now d e h
other_reads a b trees (Err left) d e h = other_sticks a b trees left.now d e h

-- ---- what may be left out

-- a rule that can read nothing takes no tree where it cannot begin
pub stays : (g : G) (trees : List TokenTree) → heads g (classes_in trees) ≡ false → is_nullable g ≡ true
    → Finds g trees trees
stays g trees h e = record {
  events = marks_of_nothing g;
  found = find_skips rules g (classes_in trees) h e;
  remains = remains_self trees;
}

pub perhaps_reads : (a : G) (trees : List TokenTree) (result : Result (Bor (List TokenTree)) (Bor (List TokenTree)))
    → heads a (classes_in trees) ≡ true → ReadsRule a trees result
    → ReadsRule (perhaps a) trees result
perhaps_reads a trees result e h = first_reads a Nothing trees result e h

pub perhaps_stays : (a : G) (trees : List TokenTree) → heads a (classes_in trees) ≡ false
    → Finds (perhaps a) trees trees
perhaps_stays a trees h =
    stays (perhaps a) trees
    (heads_either a Nothing (classes_in trees) ∙ rw (h, heads_nothing (classes_in trees)) refl) (or_right _ _ refl)

pub ruleset steps = (
  heads_sign,
  test_heads,
  heads_none,
  sign_finds,
  sign_sticks,
  sign_ends,
  then_finds,
  then_reads,
  then_sticks,
  then_fails,
  mark_finds,
  mark_reads,
  mark_sticks,
  first_reads,
  other_reads,
  perhaps_reads,
  perhaps_stays,
  lacks,
  heads_then,
  heads_either,
  heads_mark,
  heads_nothing,
)
