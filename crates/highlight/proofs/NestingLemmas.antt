-- What the flags say about the openers that wait.
use Rattle.std.proofs.Common.{◌≡◌, ℕ, Bool, true, false, ◌==◌, ◌||◌, List, [], ◌∷◌, ◌++◌, suc, length, reverse}
use Rattle.std.proofs.Common.{IsTrue}
use Rattle.std.proofs.Common.{refl, sym, ap, ◌∙◌, arith}
use Rattle.std.specs.Prelude.{slice_set}
use Rattle.highlight.specs.declared.style.Style.{Style}
use Rattle.highlight.specs.declared.style.Style.TheVariants.{Delimiter}
use Rattle.std.proofs.lemmas.Bool.{eq-eqb}
use Rattle.std.proofs.lemmas.List.{reverse-append, length-reverse}
use Rattle.lexical.specs.Delimiter.{is_closer}
use Rattle.highlight.specs.Delimiters.{Waiting, close_delimiter, from_match, spare}
use Rattle.highlight.specs.Nesting.{IsAwaited, Know, flag, outward, waiting_of}
use Rattle.highlight.specs.declared.nesting.Opener.{Opener}
use Rattle.highlight.specs.declared.nesting.Awaited.{Awaited}

or_false : (x y : Bool) → (x || y) ≡ false → (x ≡ false) × (y ≡ false)
or_false true y e = absurd (cc)
or_false false y e = (refl, e)

pub reverse_more : (openers : List Opener) (opener : Opener)
    → reverse (openers ++ opener ∷ []) ≡ opener ∷ reverse openers
reverse_more openers opener = reverse-append openers (opener ∷ [])

pub waiting_more : (openers : List Opener) (opener : Opener)
    → waiting_of (openers ++ opener ∷ []) ≡ record { closer = opener.closer; index = opener.index } ∷ waiting_of openers
waiting_more openers opener = ap outward (reverse_more openers opener)

length_outward : (openers : List Opener) → length (outward openers) ≡ length openers
length_outward [] = refl
length_outward (opener ∷ around) = ap (λ n. suc n) (length_outward around)

pub length_waiting : (openers : List Opener) → length (waiting_of openers) ≡ length openers
length_waiting openers = length_outward (reverse openers) ∙ length-reverse openers

-- no opener waits for the closer if the flags say so
none_waits : (c : ℕ) (awaited : Awaited) (openers : List Opener) → IsTrue (is_closer c) → Know awaited openers
    → flag c awaited ≡ false → from_match c (outward openers) ≡ []
none_waits c awaited [] is know none = refl
none_waits c awaited (opener ∷ around) is know none =
    let both = or_false (opener.closer == c) (flag c opener.around) (sym (know.0 c is) ∙ none) in
    rw both.0 (none_waits c opener.around around is know.1 both.1)

pub no_match : (c : ℕ) (awaited : Awaited) (openers : List Opener) → IsTrue (is_closer c) → IsAwaited awaited openers
    → flag c awaited ≡ false → from_match c (waiting_of openers) ≡ []
no_match c awaited openers is known none = none_waits c awaited (reverse openers) is known.know none

-- some opener is left if the flags say that one waits
pub none_left : (c : ℕ) (awaited : Awaited) (openers : List Opener) → length openers ≡ 0 → IsAwaited awaited openers
    → flag c awaited ≡ true → ⊥
none_left c awaited [] none known has = absurd (let off : flag c awaited ≡ false = known.know c in cc)
none_left c awaited (opener ∷ openers) none known has = absurd (omega (arith, none))

-- ---- the styles

pub spared_step : (styles next all : List Style) (openers after : List Opener) (opener : Opener) (depth : ℕ)
    → openers ≡ after ++ opener ∷ [] → depth ≡ length after → next ≡ slice_set styles opener.index (Delimiter depth)
    → spare styles (waiting_of openers) ≡ all → spare next (waiting_of after) ≡ all
spared_step styles next all openers after opener depth popped deep is held =
    let one : spare styles (waiting_of openers)
    ≡ spare (slice_set styles opener.index (Delimiter (length (waiting_of after)))) (waiting_of after) =
    ap (λ w. spare styles w) (ap waiting_of popped ∙ waiting_more after opener) in
    let same : next ≡ slice_set styles opener.index (Delimiter (length (waiting_of after))) =
    is ∙ ap (λ n. slice_set styles opener.index (Delimiter n)) (deep ∙ sym (length_waiting after)) in
    ap (λ s. spare s (waiting_of after)) same ∙ sym one ∙ held

pub closed_step : (c : ℕ) (before after : List Opener) (opener : Opener) (found : List Waiting)
    (styles old next : List Style) (depth : ℕ)
    → before ≡ after ++ opener ∷ [] → opener.closer ≡ c → from_match c (waiting_of before) ≡ found
    → styles ≡ old → depth ≡ length after → next ≡ slice_set styles opener.index (Delimiter depth)
    → next ++ Delimiter depth ∷ [] ≡ close_delimiter old found
closed_step c before after opener found styles old next depth popped same matches unchanged deep is =
    let here : (opener.closer == c) ≡ true = eq-eqb _ _ same in
    let first : from_match c (waiting_of before)
    ≡ record { closer = opener.closer; index = opener.index } ∷ waiting_of after =
    ap (from_match c) (ap waiting_of popped ∙ waiting_more after opener) ∙ rw here refl in
    let deeper : depth ≡ length (waiting_of after) = deep ∙ sym (length_waiting after) in
    rw (is, unchanged, deeper) (ap (close_delimiter old) (sym first ∙ matches))
