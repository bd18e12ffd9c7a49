-- What is left to print while groups are open.
use Rattle.std.proofs.Common.{◌≡◌, ℕ, Bool, true, false, List, [], ◌∷◌, ◌++◌, refl, sym, ap, ◌∙◌, append_assoc}
use Rattle.std.proofs.Output.{has_written_append, has_written_of_eq}
use Rattle.std.proofs.lemmas.List.{append-nil}
use Rattle.std.proofs.lemmas.Str.{encodes-append}
use Rattle.std.specs.Fmt.{HasWritten}
use Rattle.std.specs.declared.fmt.Formatter.{Formatter}
use Rattle.std.specs.Str.{encode_utf8_all}
use Rattle.lexical.specs.Token as tokens
use Rattle.lexical.specs.Token.{Token, Name, Mark, token_text}
use Rattle.pm_token.specs.declared.delimiters.Delimiter.{Delimiter}
use Rattle.pm_stream.specs.Delimited.{opening, is_brace}
use Rattle.pm_stream.specs.Forest.{Forest, nil, leaf, group}
use Rattle.pm_stream.specs.InOrder.{token_tree}
use Rattle.pm_stream.specs.Printed.{parts, printed_after, printed, space}
use Rattle.pm_stream.specs.PrintedEvents.{gap_end}
use Rattle.pm_stream.specs.PrintedTree.{ending, front_text, gap_after_step, gap_within, step_text}
use Rattle.pm_stream.specs.Steps.{Step, Leave, step_of, steps, steps_onto}
use Rattle.pm_stream.specs.Trees.{forest, alone}
use Rattle.pm_stream.specs.declared.steps.Step.{Step as Given}
use Rattle.pm_stream.specs.declared.stream.Group.{Group as Grouped}
use Rattle.pm_stream.specs.declared.stream.TokenTree.{TokenTree}
use Rattle.pm_stream.specs.declared.stream.TokenTree.TheVariants.{Group}
use Rattle.pm_stream.proofs.StepLemmas.{PassesOver}

-- what is printed for the steps that are left
abbrev pub steps_text : Bool → List Step → List ℕ
steps_text gap [] = []
steps_text gap (step ∷ steps) = step_text gap step ++ steps_text (gap_after_step step) steps

-- what is left to print after one step
pub text_step : (gap now : Bool) (old new : List Step) (step given : Given) → old ≡ step_of step ∷ new → given ≡ step
    → now ≡ gap_after_step (step_of given)
    → step_text gap (step_of given) ++ steps_text now new ≡ steps_text gap old
text_step gap now old new step given first same is = rw (is, same, first) refl

token_front : (token : Token) (lo hi : ℕ) → front_text (token_tree token lo hi) ≡ token_text token
token_front (Name raw name) lo hi = refl
token_front (Mark c true) lo hi = refl
token_front (Mark c false) lo hi = refl
token_front (tokens.Literal text) lo hi = refl

token_gap : (token : Token) (lo hi : ℕ) → gap_within (token_tree token lo hi) ≡ parts token
token_gap (Name raw name) lo hi = refl
token_gap (Mark c true) lo hi = refl
token_gap (Mark c false) lo hi = refl
token_gap (tokens.Literal text) lo hi = refl

steps_text-onto : (gap : Bool) (f : Forest) (more : List Step)
    → steps_text gap (steps_onto f more) ≡ printed_after gap f ++ steps_text (gap_end gap f) more
steps_text-onto gap nil more = refl
steps_text-onto gap (leaf token lo hi rest) more =
    rw (token_front token lo hi, token_gap token lo hi)
    (ap (λ x. (space gap ++ token_text token) ++ x) (steps_text-onto (parts token) rest more)
    ∙ simp append_assoc refl)
steps_text-onto gap (group d lo hi inside rest) more =
    let whole : Grouped = record { delimiter = d; stream = inside; span = record { lo = lo; hi = hi } } in
    ap (λ x. (space gap ++ opening d) ++ x)
    (steps_text-onto (is_brace d) inside (Leave whole rest ∷ steps_onto rest more)
    ∙ ap (λ x. printed_after (is_brace d) inside ++ (ending d ++ x)) (steps_text-onto true rest more))
    ∙ simp append_assoc refl

-- before the first step, all of the stream is left to print
pub steps_text-steps : (gap : Bool) (f : Forest) → steps_text gap (steps f) ≡ printed_after gap f
steps_text-steps gap f = steps_text-onto gap f [] ∙ append-nil (printed_after gap f)

-- a group that is printed by a call of its own, since memory ran out for a step
pub text_over : (gap now : Bool) (was old new : List Step) (g : Grouped) (after : Forest) (d : Delimiter)
    (inside : List TokenTree)
    → old ≡ was → PassesOver old g after new → d ≡ g.delimiter → now ≡ is_brace d → forest inside ≡ g.stream
    → (space gap ++ (opening d ++ (printed_after now (forest inside) ++ ending d))) ++ steps_text true new
    ≡ steps_text gap was
text_over gap now was old new g after d inside same_steps over same is into =
    rw (is, same, into, ← same_steps, over)
    (simp append_assoc refl
    ∙ ap (λ x. (space gap ++ opening g.delimiter) ++ x)
    (sym (steps_text-onto (is_brace g.delimiter) g.stream (Leave g after ∷ new))))

-- some texts were written, and then the next one
pub written_more : {W : Type 0} (took : W → List ℕ → W → Type 0) (f g h : Formatter W) (done next left all : List ℕ)
    → HasWritten took f (encode_utf8_all done) g → HasWritten took g (encode_utf8_all next) h
    → done ++ (next ++ left) ≡ all
    → (now : List ℕ) × HasWritten took f (encode_utf8_all now) h × (now ++ left ≡ all)
written_more took f g h done next left all p q e = (
  done ++ next,
  has_written_of_eq _ _ _ _ _ (sym (encodes-append done next)) (has_written_append _ _ _ _ _ _ p q),
  append_assoc done next left ∙ e,
)

-- two texts were written
pub written_two : {W : Type 0} (took : W → List ℕ → W → Type 0) (f g h : Formatter W) (a b : List ℕ)
    → HasWritten took f (encode_utf8_all a) g → HasWritten took g (encode_utf8_all b) h
    → HasWritten took f (encode_utf8_all (a ++ b)) h
written_two took f g h a b p q =
    has_written_of_eq _ _ _ _ _ (sym (encodes-append a b)) (has_written_append _ _ _ _ _ _ p q)

-- the text of one step was written: a space and what comes after it
pub spaced_written : {W : Type 0} (took : W → List ℕ → W → Type 0) (f g h : Formatter W) (gap : Bool)
    (front text : List ℕ)
    → HasWritten took f (encode_utf8_all (space gap)) g → HasWritten took g (encode_utf8_all front) h
    → text ≡ space gap ++ front → HasWritten took f (encode_utf8_all text) h
spaced_written took f g h gap front text p q is =
    has_written_of_eq _ _ _ _ _ (ap encode_utf8_all (sym is)) (written_two _ _ _ _ _ _ p q)

-- a whole group was written
pub group_written : {W : Type 0} (took : W → List ℕ → W → Type 0) (f f1 f2 f3 : Formatter W) (g : Grouped)
    (d : Delimiter) (gap : Bool) (inside : List TokenTree)
    → d ≡ g.delimiter → gap ≡ is_brace d → forest inside ≡ g.stream
    → HasWritten took f (encode_utf8_all (opening d)) f1
    → HasWritten took f1 (encode_utf8_all (printed_after gap (forest inside))) f2
    → HasWritten took f2 (encode_utf8_all (ending d)) f3
    → HasWritten took f (encode_utf8_all (printed (alone (Group g)))) f3
group_written took f f1 f2 f3 g d gap inside ed eg into p q r =
    let whole : opening d ++ (printed_after gap (forest inside) ++ ending d) ≡ printed (alone (Group g)) =
    rw (eg, into, ed) (simp append-nil refl) in
    has_written_of_eq _ _ _ _ _ (ap encode_utf8_all whole) (written_two _ _ _ _ _ _ p (written_two _ _ _ _ _ _ q r))
