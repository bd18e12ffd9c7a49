-- A text that is marked, unless it is empty.
use Rattle.std.proofs.Common.{◌≡◌, ℕ, true, false, ◌==◌, List, [], ◌∷◌, arith, length, refl}
use Rattle.std.proofs.lemmas.Bool.{eqb-true}
use Rattle.highlight.specs.Page.{escape_text, in_colour, in_span, line_past, marked_text}
use Rattle.highlight.specs.declared.format.Format.{Format}
use Rattle.highlight.specs.declared.format.Format.TheVariants.{Html, Term}

some : (c : ℕ) (text : List ℕ) → (length (c ∷ text) == 0) ≡ true → ⊥
some c text none = omega (arith, eqb-true (length (c ∷ text)) 0 none)

pub marked_nothing : (format : Format) (line : ℕ) (class colour text : List ℕ) → (length text == 0) ≡ true
    → marked_text format line class colour text ≡ []
marked_nothing format line class colour [] none = refl
marked_nothing format line class colour (c ∷ text) none = absurd (some c text none)

pub line_past_nothing : (format : Format) (line : ℕ) (text : List ℕ) → (length text == 0) ≡ true
    → line ≡ line_past format line text
line_past_nothing Html line [] none = refl
line_past_nothing Term line [] none = refl
line_past_nothing format line (c ∷ text) none = absurd (some c text none)

pub marked_html : (line : ℕ) (class colour text : List ℕ) → (length text == 0) ≡ false
    → marked_text Html line class colour text ≡ in_span class (escape_text line text)
marked_html line class colour [] some = absurd (cc)
marked_html line class colour (c ∷ text) some = refl

pub marked_term : (line : ℕ) (class colour text : List ℕ) → (length text == 0) ≡ false
    → marked_text Term line class colour text ≡ in_colour colour text
marked_term line class colour [] some = absurd (cc)
marked_term line class colour (c ∷ text) some = refl

pub ruleset marks = (marked_nothing, line_past_nothing, marked_html, marked_term)
