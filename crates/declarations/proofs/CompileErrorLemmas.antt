-- The trees of a call of `compile_error!`.
use Rattle.std.proofs.Common.{◌≡◌, ℕ, refl, sym, ◌∙◌, ap, true, false, List, [], ◌∷◌, Option, Result, Ok}
use Rattle.std.proofs.Common.{Err, IfOk, codes, lit<}
use Rattle.std.proofs.Common.{map-id}
use Rattle.std.proofs.iter.Yields.{listed, gives_Drains}
use Rattle.std.specs.Array.Iter.{array_into_iter_items, array_steps}
use Rattle.std.specs.Iterator.{Drains}
use Rattle.pm_span.specs.Extent.{Extent, nowhere}
use Rattle.pm_token.specs.Escaped.{string_text}
use Rattle.pm_token.specs.Leaf.{Mark, Name, Text}
use Rattle.pm_token.specs.declared.delimiters.Delimiter.TheVariants.{Brace}
use Rattle.pm_token.specs.declared.marks.Spacing.TheVariants.{Joint, Alone}
use Rattle.pm_stream.specs.Building.{trees_of_all, split}
use Rattle.pm_stream.specs.Trees.{forest}
use Rattle.pm_stream.specs.declared.stream.Group.{Group as Grouped}
use Rattle.pm_stream.specs.declared.stream.TokenTree.TheVariants.{Group, Ident, Punct, Literal}
use Rattle.declarations.specs.CompileError.{braces, compile_error, mark, word}
use Rattle.pm_stream.specs.Forest.{Forest}
use Rattle.std.specs.Str.{chars}
use Rattle.std.specs.List.{list_all}
use Rattle.std.proofs.lemmas.Bool.{and_from}
use Rattle.lexical.specs.Class.{is_ident_start, is_ident_continue}
use Rattle.lexical.proofs.ClassLemmas.{ident_start_ascii, ident_continue_ascii}
use Rattle.lexical.specs.Token as tokens
use Rattle.pm_token.specs.Built.{IsBuiltToken}

starts_c : is_ident_start 99 ≡ true
starts_c = ident_start_ascii 99 (lit< tt)

core_goes : list_all is_ident_continue (codes "ore") ≡ true
core_goes = and_from _ _ (ident_continue_ascii 111 (lit< tt))
    (and_from _ _ (ident_continue_ascii 114 (lit< tt))
    (and_from _ _ (ident_continue_ascii 101 (lit< tt))
    refl))

pub core_built : IsBuiltToken (tokens.Name false (codes "core"))
core_built = (
  record {
    front = codes "c";
    back = codes "ore";
    whole = refl;
    first = (99, refl, starts_c);
    second = record { each = core_goes; stops = refl };
  },
  refl,
  refl,
)

pub core_chars : chars (codes "core") ≡ codes "core"
unfolding chars
core_chars = refl

compile_error_goes : list_all is_ident_continue (codes "ompile_error") ≡ true
compile_error_goes = and_from _ _ (ident_continue_ascii 111 (lit< tt))
    (and_from _ _ (ident_continue_ascii 109 (lit< tt))
    (and_from _ _ (ident_continue_ascii 112 (lit< tt))
    (and_from _ _ (ident_continue_ascii 105 (lit< tt))
    (and_from _ _ (ident_continue_ascii 108 (lit< tt))
    (and_from _ _ (ident_continue_ascii 101 (lit< tt))
    (and_from _ _ (ident_continue_ascii 95 (lit< tt))
    (and_from _ _ (ident_continue_ascii 101 (lit< tt))
    (and_from _ _ (ident_continue_ascii 114 (lit< tt))
    (and_from _ _ (ident_continue_ascii 114 (lit< tt))
    (and_from _ _ (ident_continue_ascii 111 (lit< tt))
    (and_from _ _ (ident_continue_ascii 114 (lit< tt))
    refl)))))))))))

pub compile_error_built : IsBuiltToken (tokens.Name false (codes "compile_error"))
compile_error_built = (
  record {
    front = codes "c";
    back = codes "ompile_error";
    whole = refl;
    first = (99, refl, starts_c);
    second = record { each = compile_error_goes; stops = refl };
  },
  refl,
  refl,
)

pub compile_error_chars : chars (codes "compile_error") ≡ codes "compile_error"
unfolding chars
compile_error_chars = refl

-- ---- the texts of the tokens

-- ---- the trees of an array

pub drain_gives : {A : Type 0} {n : ℕ} (it : _) (xs : List A) → Drains (array_steps {A = A} {n = n}) it xs
    → xs ≡ array_into_iter_items it
drain_gives {A} {n} it xs d =
    sym (map-id xs) ∙ gives_Drains (array_steps {A = A} {n = n}) (λ x. x) xs (array_into_iter_items it) it
    (listed {B = A} (array_steps {A = A} {n = n}) (λ x. x) array_into_iter_items (λ s t p. p.0) (λ s x t p. p) it) d

-- all elements that an iterator still has are put into the stream
pub all_put : {S A E : Type 0} (Begins : S → Type 0) (steps : S → Option A → S → Type 0) (left : S → List A)
    (trees : A → Forest) (items : List A) (made : Forest) (r : Result Forest E)
    → ((it : S) (xs : List A) → Drains steps it xs → xs ≡ left it) → ((it : S) → Begins it → left it ≡ items)
    → trees_of_all trees items ≡ made
    → IfOk r (λ stream. (it : S) × (xs : List A) × Begins it × Drains steps it xs × (stream ≡ trees_of_all trees xs))
    → IfOk r (λ stream. stream ≡ made)
all_put Begins steps left trees items made (Err e) all begins same ran = tt
all_put Begins steps left trees items made (Ok stream) all begins same ran =
    ran.4 ∙ ap (trees_of_all trees) (all ran.0 ran.1 ran.3 ∙ begins ran.0 ran.2) ∙ same

-- ---- the trees of the call

-- the braces that hold the literal of a text
pub built_braces : (text : List ℕ) (span : Extent) (literal : Text) (inside : Forest) (old new : Grouped)
    → literal ≡ record { text = string_text text; span = span } → inside ≡ split (Literal literal)
    → old ≡ record { delimiter = Brace; stream = inside; span = nowhere }
    → new ≡ record { delimiter = old.delimiter; stream = old.stream; span = span }
    → Group new ≡ braces (Literal (record { text = string_text text; span = span }) ∷ []) span
built_braces text span literal inside old new is holds was now =
    ap Group (now ∙ ap (λ (g : Grouped). record { delimiter = g.delimiter; stream = g.stream; span = span }) was
    ∙ ap (λ f. record { delimiter = Brace; stream = f; span = span }) (holds ∙ ap (λ l. split (Literal l)) is))

pub built_call : (text : List ℕ) (span : Extent) (a b c d e : Mark) (core name : Name) (group : Grouped)
    → a ≡ record { mark = 58; spacing = Joint; span = span } → b ≡ record { mark = 58; spacing = Alone; span = span }
    → core ≡ record { name = codes "core"; raw = false; span = span }
    → c ≡ record { mark = 58; spacing = Joint; span = span } → d ≡ record { mark = 58; spacing = Alone; span = span }
    → name ≡ record { name = codes "compile_error"; raw = false; span = span }
    → e ≡ record { mark = 33; spacing = Alone; span = span }
    → Group group ≡ braces (Literal (record { text = string_text text; span = span }) ∷ []) span
    → trees_of_all split (Punct a ∷ Punct b ∷ Ident core ∷ Punct c ∷ Punct d ∷ Ident name ∷ Punct e ∷ Group group ∷ [])
    ≡ forest (compile_error text span)
built_call text span a b c d e core name group is_a is_b is_core is_c is_d is_name is_e is_group =
    rw (is_a, is_b, is_core, is_c, is_d, is_name, is_e) (
    ap (λ t. trees_of_all split (mark 58 Joint span ∷ mark 58 Alone span ∷ word (codes "core") span ∷ mark 58 Joint span
    ∷ mark 58 Alone span ∷ word (codes "compile_error") span ∷ mark 33 Alone span ∷ t ∷ [])) is_group)
