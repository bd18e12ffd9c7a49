-- A stream that a text parses to is built.
use Rattle.std.proofs.Common.{ℕ, ◌+◌, ◌≤◌, Bool, true, false, List, [], ◌∷◌, ◌++◌, length, refl, sym, subst, arith}
use Rattle.std.specs.Str.{chars, IsUtf8}
use Rattle.std.proofs.lemmas.Str.{scalars-chars}
use Rattle.lexical.specs.Comment.{Doc, closing}
use Rattle.lexical.specs.Cover.{StandBefore, onto}
use Rattle.lexical.specs.Piece.{Kind, Piece, FrontMark, Gap, Open, Close, Leaf, IsPiece}
use Rattle.lexical.specs.Piece as pieces
use Rattle.pm_token.specs.Built.{IsBuiltToken}
use Rattle.pm_token.specs.Text.{IsText}
use Rattle.pm_token.proofs.EscapedLemmas as escaped
use Rattle.pm_token.proofs.TextLemmas.{text_split}
use Rattle.pm_stream.specs.Events.{Event, One, Opens, Closes, doc_onto, doc_group_onto, events_onto, expansion}
use Rattle.pm_stream.specs.Forest.{Forest, nil, leaf, group, flat_onto, IsBuilt}
use Rattle.pm_stream.specs.Parsing.{ParsesTo}
use Rattle.pm_stream.proofs.DocLemmas.{doc_name_built}
use Rattle.pm_stream.proofs.PieceLemmas.{token_built}

-- whether each token is built and does not end before it begins, and the events ascend
abbrev Rising : ℕ → List Event → Type 0
Rising at [] = Unit {0}
Rising at (One token lo hi ∷ es) = IsBuiltToken token × (at ≤ lo) × (lo ≤ hi) × Rising lo es
Rising at (Opens d lo ∷ es) = (at ≤ lo) × Rising lo es
Rising at (Closes d hi ∷ es) = (at ≤ hi) × Rising hi es

rising_sooner : (m n : ℕ) (es : List Event) → m ≤ n → Rising n es → Rising m es
rising_sooner m n [] less h = tt
rising_sooner m n (One token lo hi ∷ es) less h = (h.0, omega (arith, h.1), h.2, h.3)
rising_sooner m n (Opens d lo ∷ es) less h = (omega (arith, h.0), h.1)
rising_sooner m n (Closes d hi ∷ es) less h = (omega (arith, h.0), h.1)

record RisesPast (at : ℕ) (f : Forest) (es : List Event) : Type 0 where
  built : IsBuilt f
  end : ℕ
  later : at ≤ end
  rest : Rising end es

rising_flat : (f : Forest) (es : List Event) (at : ℕ) → Rising at (flat_onto f es) → RisesPast at f es
rising_flat nil es at h = record { built = tt; end = at; later = omega arith; rest = h }
rising_flat (leaf t lo hi f) es at h =
    let more = rising_flat f es lo h.3 in
    record { built = (h.0, h.2, more.built); end = more.end; later = omega (arith, h.1, more.later); rest = more.rest }
rising_flat (group d lo hi f k) es at h =
    let inside = rising_flat f (Closes d hi ∷ flat_onto k es) lo h.1 in
    let more = rising_flat k es hi inside.rest.1 in
    record {
      built = (omega (arith, inside.later, inside.rest.0), inside.built, more.built);
      end = more.end;
      later = omega (arith, h.0, inside.later, inside.rest.0, more.later);
      rest = more.rest;
    }

-- ---- the events of a piece

rising_doc_group : (lo hi : ℕ) (text : List ℕ) (es : List Event) → lo ≤ hi → IsText text → Rising hi es
    → Rising lo (doc_group_onto lo hi text es)
rising_doc_group lo hi text es within all h =
    let same : lo ≤ lo = omega arith in
    let literal = escaped.doc_built text all in
    (same, (doc_name_built, same, within, (refl, same, within, (literal, same, within, (within, h)))))

rising_doc : (lo hi : ℕ) (inner : Bool) (text : List ℕ) (es : List Event) → lo ≤ hi → IsText text → Rising hi es
    → Rising lo (doc_onto lo hi inner text es)
rising_doc lo hi true text es within all h =
    let same : lo ≤ lo = omega arith in
    (refl, same, within, (refl, same, within, rising_doc_group lo hi text es within all h))
rising_doc lo hi false text es within all h =
    let same : lo ≤ lo = omega arith in
    (refl, same, within, rising_doc_group lo hi text es within all h)

doc_body_text : (inner : Bool) (text p r : List ℕ) → Doc inner text p r → IsText p → IsText text
doc_body_text inner text p r h all =
    (text_split text (closing p r) (text_split h.front (text ++ closing p r) (subst IsText h.whole all)).1).0

rising_piece : (first : Bool) (at : ℕ) (k : Kind) (p r : List ℕ) (es : List Event) → IsPiece first k p r → IsText p
    → Rising (at + length p) es → Rising at (events_onto at k p es)
rising_piece first at FrontMark p r es stands all h = rising_sooner at (at + length p) es (omega arith) h
rising_piece first at Gap p r es stands all h = rising_sooner at (at + length p) es (omega arith) h
rising_piece first at (pieces.Doc inner text) p r es stands all h =
    rising_doc at (at + length p) inner text es (omega arith) (doc_body_text inner text p r stands all) h
rising_piece first at (Open c) p r es stands all h =
    (omega arith, rising_sooner at (at + length p) es (omega arith) h)
rising_piece first at (Close c) p r es stands all h = (omega arith, h)
rising_piece first at (Leaf token) p r es stands all h = (
  token_built token r (subst IsText stands.0 all) stands.1,
  omega arith,
  omega arith,
  rising_sooner at (at + length p) es (omega arith) h,
)

rising_pieces : (first : Bool) (at : ℕ) (us : List Piece) (r : List ℕ) → StandBefore first us r → IsText (onto us r)
    → Rising at (expansion at us)
rising_pieces first at [] r h all = tt
rising_pieces first at (u ∷ us) r h all =
    let parts = text_split u.1 (onto us r) all in
    rising_piece first at u.0 u.1 (onto us r) (expansion (at + length u.1) us) h.0 parts.0
    (rising_pieces false (at + length u.1) us r h.1 parts.1)

pub parsed_built : (base : ℕ) (source : List ℕ) (stream : Forest) → IsText source → ParsesTo base source stream
    → IsBuilt stream
parsed_built base source stream all h =
    (rising_flat stream [] base (subst (Rising base) (sym h.expands)
    (rising_pieces true base h.pieces [] h.covers.stand (subst IsText h.covers.whole all)))).built

-- a text in bytes parses to a built stream
pub parsed_text_built : (base : ℕ) (text : List ℕ) (stream : Forest) → IsUtf8 text
    → ParsesTo base (chars text) stream → IsBuilt stream
parsed_text_built base text stream utf8 h = parsed_built base (chars text) stream (scalars-chars text utf8) h
