-- What the parser has read, after one more step.
use Rattle.std.proofs.Common.{◌≡◌, ℕ, ◌+◌, true, false, List, [], ◌∷◌, ◌++◌, length, take, drop, sym, ap, ap₂, ◌∙◌}
use Rattle.std.proofs.Common.{subst, append_assoc, append-nil, length-append, arith}
use Rattle.std.proofs.lemmas.List.{length-take-le}
use Rattle.std.proofs.Math.Seq.{take-length, drop-length}
use Rattle.lexical.specs.Found.{kind_of}
use Rattle.lexical.specs.declared.piece.PieceKind.{PieceKind}
use Rattle.pm_span.specs.Extent.{Extent}
use Rattle.pm_token.specs.declared.delimiters.Delimiter.{Delimiter}
use Rattle.pm_stream.specs.Events.{Event, One, Opens, Closes, bang, doc_onto, doc_group_onto, events_onto, hash}
use Rattle.pm_stream.specs.Forest.{flat_onto, IsBuilt}
use Rattle.pm_stream.specs.OpenGroups.{unclosed_onto}
use Rattle.pm_stream.specs.Trees.{alone, forest}
use Rattle.pm_stream.specs.declared.stream.TokenTree.{TokenTree}
use Rattle.pm_stream.specs.declared.stream.TokenTree.TheVariants.{Group}
use Rattle.pm_stream.proofs.EventLemmas.{unclosed-append}
use Rattle.pm_stream.specs.Nesting.{innermost, groups_open, IsNested}
use Rattle.pm_stream.specs.ParserState.{Adds, Parses}
use Rattle.pm_stream.specs.Taken.{HasClosed, HasTaken, IsLexed, IsTakenTo, Taken, past, position}
use Rattle.pm_stream.specs.declared.parse.Frame.{Frame}
use Rattle.pm_stream.specs.declared.parse.Parser.{Parser}
use Rattle.pm_stream.specs.declared.reading.Lexed.{Lexed}
use Rattle.pm_stream.proofs.OpenGroupLemmas.{unclosed_in, unclosed-push, unclosed-close, with_closed}
use Rattle.pm_stream.proofs.OpenGroupLemmas.{closed_group, nested_more}
use Rattle.pm_stream.proofs.OpenGroupLemmas.{built_close, built_later, built_push, IsBuiltIn}

abbrev with_events : Taken Frame → List Event → Taken Frame
with_events taken events = record {
  base = taken.base;
  source = taken.source;
  passed = taken.passed;
  opened = taken.opened;
  events = events;
}

-- one more tree
pub adds_tree : (old new : Parser) (tree : TokenTree) → new.trees.items ≡ old.trees.items ++ tree ∷ []
    → IsBuilt (alone tree) → Adds old new (flat_onto (alone tree) [])
adds_tree old new tree more is = λ taken h.
    let frames = taken.opened in
    let trees = old.trees.items in
    record {
      nested = nested_more frames (length trees) (length new.trees.items)
          (omega (arith, ap length more, length-append trees (tree ∷ []))) h.nested;
      events = ap (λ ts. unclosed_in frames ts []) more
          ∙ (unclosed-push frames trees tree [] h.nested
          ∙ (unclosed-append (groups_open frames trees) (forest (innermost frames trees)) [] (flat_onto (alone tree) [])
          ∙ ap (λ es. es ++ flat_onto (alone tree) []) h.events));
      built = subst (IsBuiltIn (position taken) frames) (sym more)
          (built_push (position taken) frames trees tree h.nested h.built is);
    }

pub adds_then : (a b c : Parser) (es fs : List Event) → Adds a b es → Adds b c fs → Adds a c (es ++ fs)
adds_then a b c es fs h k = λ taken now.
    subst (λ xs. Parses c (with_events taken xs))
    (append_assoc taken.events es fs) (k _ (h taken now))

-- after the piece, the parser has read its events too
pub adds_past : (old new : Parser) (es : List Event) → Adds old new es
    → (taken : Taken Frame) (front : List ℕ) → Parses old taken → Parses new (past taken front taken.opened es)
adds_past old new es step taken front h =
    let now = step taken h in
    record {
      nested = now.nested;
      events = now.events;
      built = built_later (groups_open taken.opened new.trees.items) (forest (innermost taken.opened new.trees.items))
          (position taken) (taken.base + length (taken.passed ++ front))
          (omega (arith, length-append taken.passed front)) now.built;
    }

-- the trees of the piece were added
pub parses_token : {old new : Parser} (lexed : Lexed) (kind : PieceKind) (es : List Event) → Adds old new es
    → ((is : IsLexed lexed) → es ≡ events_onto lexed.at (kind_of kind is.found.front) is.found.front [])
    → HasTaken Parses old new lexed kind
parses_token {old} {new} lexed kind es step gives = λ to.
    adds_past old new _ (subst (Adds old new) (gives to.is) step) to.before to.is.found.front to.takes

-- a piece without trees changes no tree
pub parses_past : (parser : Parser) (taken : Taken Frame) (front : List ℕ) → Parses parser taken
    → Parses parser (past taken front taken.opened [])
parses_past parser = adds_past parser parser [] (λ taken h. subst (λ xs. Parses parser (with_events taken xs))
    (sym (append-nil taken.events)) h)

pub adds_doc : (a b c : Parser) (lo hi : ℕ) (text : List ℕ) (es : List Event)
    → Adds a b (One hash lo hi ∷ []) → Adds b c es → es ≡ doc_group_onto lo hi text []
    → Adds a c (doc_onto lo hi false text [])
adds_doc a b c lo hi text es h k is =
    adds_then a b c (One hash lo hi ∷ []) (doc_group_onto lo hi text []) h (subst (Adds b c) is k)

pub adds_inner_doc : (a b c d : Parser) (lo hi : ℕ) (text : List ℕ) (es : List Event)
    → Adds a b (One hash lo hi ∷ []) → Adds b c (One bang lo hi ∷ []) → Adds c d es
    → es ≡ doc_group_onto lo hi text []
    → Adds a d (doc_onto lo hi true text [])
adds_inner_doc a b c d lo hi text es h i k is =
    adds_then a b d (One hash lo hi ∷ []) (One bang lo hi ∷ doc_group_onto lo hi text []) h
    (adds_then b c d (One bang lo hi ∷ []) (doc_group_onto lo hi text []) i (subst (Adds c d) is k))

-- after an opener, one more group is open
pub parses_open : (parser : Parser) (lexed : Lexed) (d : Delimiter) (n : ℕ) → n ≡ length parser.trees.items
    → (to : IsTakenTo Parses parser lexed)
    → Parses parser (past to.before to.is.found.front
    (record { before = n; delimiter = d; lo = lexed.at } ∷ to.before.opened) (Opens d lexed.at ∷ []))
parses_open parser lexed d n is to =
    let taken = to.before in
    let h = to.takes in
    let trees = parser.trees.items in
    let frames = taken.opened in
    let all : take n trees ≡ trees = ap (λ n. take n trees) is ∙ take-length trees in
    let none : drop n trees ≡ [] = ap (λ n. drop n trees) is ∙ drop-length trees in
    record {
      nested = (omega (arith, is), subst (IsNested frames) (sym is) h.nested);
      events =
          ap₂ (λ ts us. unclosed_onto (groups_open frames ts) (forest (innermost frames ts))
          (Opens d lexed.at ∷ flat_onto (forest us) [])) all none
          ∙ (unclosed-append (groups_open frames trees) (forest (innermost frames trees)) [] (Opens d lexed.at ∷ [])
          ∙ ap (λ es. es ++ (Opens d lexed.at ∷ [])) h.events);
      built = (
        subst (λ us. IsBuilt (forest us)) (sym none) tt,
        omega (arith, to.at, length-append taken.passed to.is.found.front),
        subst (λ ts. IsBuiltIn lexed.at frames ts) (sym all)
            (subst (λ n. IsBuiltIn n frames trees) (sym to.at) h.built),
      );
    }

-- after a closer, the innermost group is a tree
pub parses_close : (old new : Parser) (frame : Frame) (lexed : Lexed) (d : Delimiter) (span : Extent)
    → span ≡ record { lo = frame.lo; hi = lexed.at + 1 }
    → new.trees.items ≡ take frame.before old.trees.items
    ++ Group (record { delimiter = d; stream = forest (drop frame.before old.trees.items); span = span }) ∷ []
    → HasClosed (λ (frame : Frame). (frame.delimiter, frame.lo)) Parses old new lexed d frame
parses_close old new frame lexed d span is grown = λ can.
    let more : new.trees.items ≡ with_closed d frame old.trees.items (lexed.at + 1) =
    grown ∙ ap (λ s. take frame.before old.trees.items
    ++ Group (record { delimiter = d; stream = forest (drop frame.before old.trees.items); span = s }) ∷ []) is in
    let taken = can.to.before in
    let outer = can.outer in
    let front = can.to.is.found.front in
    let at = lexed.at in
    let e = can.to.at in
    let was = can.innermost in
    let h = can.to.takes in
    let trees = old.trees.items in
    let hi = at + 1 in
    let nested : IsNested (frame ∷ outer) (length trees) = subst (λ fs. IsNested fs (length trees)) was h.nested in
    let built : IsBuiltIn at (frame ∷ outer) trees =
    subst (λ n. IsBuiltIn n (frame ∷ outer) trees) (sym e) (subst (λ fs. IsBuiltIn (position taken) fs trees) was
    h.built) in
    let events : unclosed_in (frame ∷ outer) trees [] ≡ taken.events =
    subst (λ fs. unclosed_in fs trees [] ≡ taken.events) was h.events in
    let before = take frame.before trees in
    let after : ℕ = taken.base + length (taken.passed ++ front) in
    record {
      nested = nested_more outer frame.before (length new.trees.items)
          (omega (
            arith,
            ap length more,
            length-append before (closed_group d frame trees hi ∷ []),
            length-take-le frame.before trees nested.0,
          )) nested.1;
      events = ap (λ ts. unclosed_in outer ts []) more
          ∙ (unclosed-close outer frame trees d hi [] nested can.fits
          ∙ (unclosed-append (groups_open (frame ∷ outer) trees) (forest (innermost (frame ∷ outer) trees)) []
          (Closes d hi ∷ [])
          ∙ ap (λ es. es ++ (Closes d hi ∷ [])) events));
      built = subst (IsBuiltIn after outer) (sym more)
          (built_close at hi after outer frame trees d (omega arith)
          (omega (arith, e, length-append taken.passed front)) nested built);
    }
