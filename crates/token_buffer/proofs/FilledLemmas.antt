-- The entries of a buffer after one more step, and at the end of the text.
use Rattle.std.proofs.Common.{◌≡◌, ℕ, ◌+◌, ◌-◌, ◌<◌, ◌≤◌, ◌^◌, Bool, true, false, List, [], ◌∷◌, ◌++◌, codes, length}
use Rattle.std.proofs.Common.{refl, sym, ap, ap₂, ◌∙◌, subst, arith, append_assoc, append-nil, length-append}
use Rattle.std.proofs.Math.ListN.{set}
use Rattle.std.proofs.Math.Seq.{set-append_seam}
use Rattle.std.specs.Str.{chars, IsUtf8, encode_utf8_all}
use Rattle.std.proofs.lemmas.Str.{encodes-chars}
use denote.Bor.{Bor}
use Rattle.lexical.specs.Piece.{IsPiece}
use Rattle.lexical.specs.Found.{LendsText, kind_of}
use Rattle.lexical.specs.Token.{Token, Name, Literal, token_text}
use Rattle.lexical.specs.declared.piece.PieceKind.TheVariants as kinds
use Rattle.pm_token.specs.Escaped.{string_text}
use Rattle.pm_token.specs.declared.delimiters.Delimiter.{Delimiter}
use Rattle.pm_token.specs.declared.delimiters.Delimiter.TheVariants.{Bracket}
use Rattle.pm_stream.specs.Events.{One, Opens, Closes, doc_onto, expansion, hash, bang, equals}
use Rattle.pm_stream.specs.Forest.{Forest, nil, leaf, group, flattening, chain}
use Rattle.pm_stream.specs.Parsing.{ParsesTo}
use Rattle.pm_stream.specs.Reading.{ReadsAll}
use Rattle.pm_stream.specs.Taken.{IsTakenTo, Taken, nothing, past}
use Rattle.pm_stream.specs.declared.reading.Lexed.{Lexed}
use Rattle.pm_stream.proofs.DocLemmas.{doc_trees, doc_trees-events}
use Rattle.lexical.proofs.PieceFacts.{piece_boundary}
use Rattle.lexical.proofs.TextLemmas.{front_len}
use Rattle.token_buffer.specs.Entries.{event_of, events_of, end_of, count_of, IsWithin}
use Rattle.token_buffer.specs.Filled.{AreEntries, AreTrees, Fills, HasEntries, Puts, doc_entries}
use Rattle.token_buffer.specs.Held.{Holds}
use Rattle.token_buffer.specs.Left.{trees_of}
use Rattle.token_buffer.specs.Many.{HasManyTokens}
use Rattle.token_buffer.specs.Unflattened.{trees_of_events}
use Rattle.token_buffer.specs.declared.entry.Entry.{Entry}
use Rattle.token_buffer.specs.declared.entry.Entry.TheVariants as entries
use Rattle.token_buffer.specs.declared.filling.Filling.{Filling}
use Rattle.token_buffer.specs.declared.filling.OpenGroup.{OpenGroup}
use Rattle.token_buffer.proofs.CutLemmas.{DocParts, IsCutAs, doc_parts, doc_cut, literal_cut, name_cut, name_front}
use Rattle.token_buffer.proofs.HeldLemmas.{events_of-append, events_of-length, held_length, holds-nil, holds-joined}
use Rattle.token_buffer.proofs.HeldLemmas.{holds-leaf, holds-group, holds_own, unflattened_flattening}

-- ---- trees of some entries

trees_joined : (text : List ℕ) (all more : List Entry) → AreTrees text all → AreTrees text more
    → AreTrees text (all ++ more)
trees_joined text all more h k = λ few.
    let size = length-append all more in
    holds_own text (all ++ more) (chain (trees_of text all) (trees_of text more))
    (holds-joined text all more (trees_of text all) (trees_of text more) (h (omega (arith, few, size)))
    (k (omega (arith, few, size))))

group_tree : (text : List ℕ) (inner : List Entry) (d : Delimiter) (lo hi count : ℕ) → AreTrees text inner
    → (length inner < 2 ^ 32 → count ≡ length inner)
    → AreTrees text (entries.Open d lo count ∷ (inner ++ (entries.Close d hi ∷ [])))
group_tree text inner d lo hi count h counted = λ few.
    let small : length inner < 2 ^ 32 = omega (arith, few, length-append inner (entries.Close d hi ∷ [])) in
    holds_own text (entries.Open d lo count ∷ (inner ++ (entries.Close d hi ∷ [])))
    (group d lo hi (trees_of text inner) nil)
    (holds-group text inner d lo hi count (trees_of text inner) (h small) (counted small))

-- ---- more entries

entries_more : (text : List ℕ) (groups : List OpenGroup) (all more : List Entry) → AreEntries text groups all
    → AreTrees text more → AreEntries text groups (all ++ more)
entries_more text [] all more h k = trees_joined text all more h k
entries_more text (x ∷ groups) all more h k = (
  h.0,
  h.1 ++ more,
  record {
    whole = ap (λ es. es ++ more) h.2.whole
        ∙ append_assoc h.0 (entries.Open x.delimiter x.lo 0 ∷ h.1) more;
    index = h.2.index;
    trees = trees_joined text h.1 more h.2.trees k;
  },
  h.3,
)

puts_nothing : (filling : Filling) → Puts filling filling []
puts_nothing filling = record { text = refl; entries = sym (append-nil filling.entries.items) }

pub puts_then : (a b c : Filling) (es fs : List Entry) → Puts a b es → Puts b c fs → Puts a c (es ++ fs)
puts_then a b c es fs h k = record {
  text = k.text ∙ h.text;
  entries = k.entries ∙ (ap (λ all. all ++ fs) h.entries ∙ append_assoc a.entries.items es fs);
}

fills_by : (old new : Filling) (more : List Entry) (taken : Taken OpenGroup) → Puts old new more
    → HasEntries old.text.now (old.entries.items ++ more) taken → Fills new taken
fills_by old new more taken step h =
    subst (λ text. HasEntries text.now new.entries.items taken) (sym step.text)
    (subst (λ all. HasEntries old.text.now all taken) (sym step.entries) h)

-- the entries of complete trees are added
pub fills_trees : (old new : Filling) (taken : Taken OpenGroup) (front : List ℕ) (more : List Entry) (f : Forest)
    → Fills old taken → Puts old new more → Holds old.text.now more f
    → Fills new (past taken front taken.opened (flattening f))
fills_trees old new taken front more f h step k =
    let text = old.text.now in
    fills_by old new more (past taken front taken.opened (flattening f)) step (record {
      source = h.source;
      utf8 = h.utf8;
      bytes = h.bytes;
      entries = entries_more text taken.opened old.entries.items more h.entries (λ few. holds_own text more f k);
      events = events_of-append text old.entries.items more ∙ ap₂ (λ es fs. es ++ fs) h.events k.events;
    })

pub fills_nothing : (filling : Filling) (taken : Taken OpenGroup) (front : List ℕ) → Fills filling taken
    → Fills filling (past taken front taken.opened [])
fills_nothing filling taken front h =
    fills_trees filling filling taken front [] nil h (puts_nothing filling) (holds-nil filling.text.now)

-- an opener is added
pub fills_open : (old new : Filling) (taken : Taken OpenGroup) (front : List ℕ) (x : OpenGroup) → Fills old taken
    → Puts old new (entries.Open x.delimiter x.lo 0 ∷ []) → x.index ≡ length old.entries.items
    → Fills new (past taken front (x ∷ taken.opened) (Opens x.delimiter x.lo ∷ []))
fills_open old new taken front x h step is =
    let text = old.text.now in
    let opener : List Entry = entries.Open x.delimiter x.lo 0 ∷ [] in
    fills_by old new opener (past taken front (x ∷ taken.opened) (Opens x.delimiter x.lo ∷ [])) step (record {
      source = h.source;
      utf8 = h.utf8;
      bytes = h.bytes;
      entries = (
        old.entries.items,
        [],
        record { whole = refl; index = is; trees = λ few. holds_own text [] nil (holds-nil text) },
        h.entries,
      );
      events = events_of-append text old.entries.items opener
          ∙ ap (λ es. es ++ (Opens x.delimiter x.lo ∷ [])) h.events;
    })

-- ---- a closer

module _ (old : Filling) (taken : Taken OpenGroup) (x : OpenGroup) (outer : List OpenGroup) (h : Fills old taken)
    (was : taken.opened ≡ x ∷ outer) where
  abbrev pub split : AreEntries old.text.now (x ∷ outer) old.entries.items
  split = subst (λ groups. AreEntries old.text.now groups old.entries.items) was h.entries

  -- the index of the innermost group's opener
  pub index_fits : x.index + 1 + length split.1 ≡ length old.entries.items
  index_fits = omega (
    arith,
    ap length split.2.whole,
    length-append split.0 (entries.Open x.delimiter x.lo 0 ∷ split.1),
    split.2.index,
  )

  pub fills_close : (new : Filling) (front : List ℕ) (hi count : ℕ)
      → (length split.1 < 2 ^ 32 → count ≡ length split.1) → new.text ≡ old.text
      → new.entries.items
      ≡ set old.entries.items x.index (entries.Open x.delimiter x.lo count) ++ (entries.Close x.delimiter hi ∷ [])
      → Fills new (past taken front outer (Closes x.delimiter hi ∷ []))
  fills_close new front hi count counted same grown =
      let text = old.text.now in
      let before : List Entry = split.0 in
      let inner : List Entry = split.1 in
      let opener : Entry = entries.Open x.delimiter x.lo 0 in
      let opened : Entry = entries.Open x.delimiter x.lo count in
      let closed : List Entry = opened ∷ (inner ++ (entries.Close x.delimiter hi ∷ [])) in
      let placed : set old.entries.items x.index opened ≡ before ++ (opened ∷ inner)
      = ap₂ (λ es n. set es n opened) split.2.whole split.2.index ∙ set-append_seam before opener inner opened in
      let now : new.entries.items ≡ before ++ closed
      = grown ∙ (ap (λ es. es ++ (entries.Close x.delimiter hi ∷ [])) placed
      ∙ append_assoc before (opened ∷ inner) (entries.Close x.delimiter hi ∷ [])) in
      let events : events_of text (before ++ closed) ≡ taken.events ++ (Closes x.delimiter hi ∷ [])
      = ap (events_of text) (sym (append_assoc before (opened ∷ inner) (entries.Close x.delimiter hi ∷ [])))
      ∙ (events_of-append text (before ++ (opened ∷ inner)) (entries.Close x.delimiter hi ∷ [])
      ∙ ap (λ es. es ++ (Closes x.delimiter hi ∷ []))
      (events_of-append text before (opened ∷ inner)
      ∙ (sym (events_of-append text before (opener ∷ inner))
      ∙ (ap (events_of text) (sym split.2.whole) ∙ h.events)))) in
      subst (λ t. HasEntries t.now new.entries.items (past taken front outer (Closes x.delimiter hi ∷ []))) (sym same)
      (subst (λ all. HasEntries text all (past taken front outer (Closes x.delimiter hi ∷ []))) (sym now) (record {
        source = h.source;
        utf8 = h.utf8;
        bytes = h.bytes;
        entries = entries_more text outer before closed split.3
            (group_tree text inner x.delimiter x.lo hi count split.2.trees counted);
        events = events;
      }))

-- the entries of a doc comment, where `entry` is that of its text
holds_doc : (inner : Bool) (text doc_body : List ℕ) (entry : Entry) (at end : ℕ)
    → event_of text entry ≡ One (Literal (string_text doc_body)) at end → count_of entry ≡ 0 → IsWithin text entry
    → Holds text (doc_entries inner entry at end) (doc_trees at end inner doc_body)
holds_doc true text doc_body entry at end is none within = record {
  events = ap (λ event. One hash at end ∷ One bang at end ∷ Opens Bracket at ∷ One (Name false (codes "doc")) at end
      ∷ One equals at end ∷ event ∷ Closes Bracket end ∷ []) is;
  counted = ap (λ n. 0 ∷ 0 ∷ 3 ∷ 0 ∷ 0 ∷ n ∷ 0 ∷ []) none;
  within = (tt, (tt, (tt, (tt, (tt, (within, (tt, tt)))))));
}
holds_doc false text doc_body entry at end is none within = record {
  events = ap (λ event. One hash at end ∷ Opens Bracket at ∷ One (Name false (codes "doc")) at end
      ∷ One equals at end ∷ event ∷ Closes Bracket end ∷ []) is;
  counted = ap (λ n. 0 ∷ 3 ∷ 0 ∷ 0 ∷ n ∷ 0 ∷ []) none;
  within = (tt, (tt, (tt, (tt, (within, (tt, tt))))));
}

-- ---- the pieces

module _ (old : Filling) (lexed : Lexed) (to : IsTakenTo Fills old lexed) where
  abbrev pub text : List ℕ
  text = old.text.now

  abbrev pub front : List ℕ
  front = to.is.found.front

  begins : chars text ≡ to.before.passed ++ chars lexed.text.now
  begins = sym to.takes.source ∙ to.source

  -- the bytes before the piece
  pub bytes_fit : (length (encode_utf8_all to.before.passed) + length lexed.text.now ≡ length text)
      × (lexed.piece.bytes ≤ length lexed.text.now)
  bytes_fit = (
    front_len text lexed.text.now to.before.passed to.takes.utf8 to.is.utf8 begins,
    (piece_boundary to.is.first lexed.text.now lexed.piece to.is.utf8 to.is.found).0,
  )

  -- the parts of a doc comment
  pub doc_made : (inner : Bool) (doc_body : Bor (List ℕ)) → lexed.piece.kind ≡ kinds.Doc inner doc_body
      → DocParts (chars doc_body.now) front to.is.found.rest
      × (length (encode_utf8_all (chars doc_body.now)) ≡ length doc_body.now)
  doc_made inner doc_body is =
      let found = to.is.found in (
        doc_parts inner (chars doc_body.now) front found.rest
            (subst (λ kind. IsPiece to.is.first (kind_of kind front) front found.rest) is found.stands),
        ap length (encodes-chars doc_body.now (subst LendsText is found.lends)),
      )

  pub doc_bytes : (inner : Bool) (doc_body : Bor (List ℕ)) → lexed.piece.kind ≡ kinds.Doc inner doc_body
      → (3 + length doc_body.now ≤ lexed.piece.bytes) × (lexed.piece.bytes ≤ 5 + length doc_body.now)
  doc_bytes inner doc_body is =
      let made = doc_made inner doc_body is in
      let bytes = to.is.found.bytes in
      (omega (arith, made.0.all_bytes, made.1, bytes), omega (arith, made.0.all_bytes, made.0.few, made.1, bytes))

  -- a token is added
  pub fills_token : (new : Filling) (entry : Entry) (token : Token) → Puts old new (entry ∷ [])
      → event_of text entry ≡ One token lexed.at (lexed.at + length front) → count_of entry ≡ 0 → IsWithin text entry
      → Fills new (past to.before front to.before.opened (One token lexed.at (lexed.at + length front) ∷ []))
  fills_token new entry token step is none within =
      fills_trees old new to.before front (entry ∷ []) (leaf token lexed.at (lexed.at + length front) nil) to.takes
      step (holds-leaf text entry token lexed.at (lexed.at + length front) is none within)

  -- a token with a text that is cut out of the source is added
  fills_cut : (new : Filling) (entry : Entry) (token : Token) → Puts old new (entry ∷ [])
      → event_of text entry ≡ One token lexed.at (lexed.at + length (token_text token)) → count_of entry ≡ 0
      → (end_of (event_of text entry) < 2 ^ 32 → IsWithin text entry) → front ≡ token_text token
      → Fills new (past to.before front to.before.opened (One token lexed.at (lexed.at + length front) ∷ []))
  fills_cut new entry token step is none within own =
      let event : event_of text entry ≡ One token lexed.at (lexed.at + length front)
      = is ∙ ap (λ p. One token lexed.at (lexed.at + length p)) (sym own) in
      fills_token new entry token step event none (within
      (subst (λ x. end_of x < 2 ^ 32) (sym event) (omega (arith, to.is.room, to.is.found.chars))))

  pub fills_name : (new : Filling) (raw : Bool) (name : Bor (List ℕ)) (lo hi : ℕ)
      → lexed.piece.kind ≡ kinds.Name raw name → lo ≡ length (encode_utf8_all to.before.passed)
      → hi ≡ lo + lexed.piece.bytes → Puts old new (entries.Name raw (hi - length name.now) hi lexed.at ∷ [])
      → Fills new (past to.before front to.before.opened
      (One (Name raw (chars name.now)) lexed.at (lexed.at + length front) ∷ []))
  fills_name new raw name lo hi is from ends step =
      let cut : IsCutAs text (chars name.now) (hi - length name.now) hi =
      subst (λ n. IsCutAs text (chars name.now) (n - length name.now) n) (sym ends)
      (name_cut to.is.first text to.before.passed (chars lexed.text.now) lo lexed.piece raw name to.takes.utf8 begins
      from to.is.found is) in
      fills_cut new (entries.Name raw (hi - length name.now) hi lexed.at) (Name raw (chars name.now)) step
      (ap (λ x. One (Name raw x) lexed.at (lexed.at + length (token_text (Name raw x)))) cut.says) refl
      (λ fits. (cut.within, fits))
      (name_front to.is.first (chars lexed.text.now) lexed.piece raw name to.is.found is)

  pub fills_literal : (new : Filling) (lo hi : ℕ) → lo ≡ length (encode_utf8_all to.before.passed)
      → hi ≡ lo + lexed.piece.bytes → Puts old new (entries.Literal lo hi lexed.at ∷ [])
      → Fills new (past to.before front to.before.opened
      (One (Literal front) lexed.at (lexed.at + length front) ∷ []))
  fills_literal new lo hi from ends step =
      let cut : IsCutAs text front lo hi =
      subst (IsCutAs text front lo) (sym ends)
      (literal_cut to.is.first text to.before.passed (chars lexed.text.now) lo lexed.piece to.takes.utf8 begins from
      to.is.found) in
      fills_cut new (entries.Literal lo hi lexed.at) (Literal front) step
      (ap (λ x. One (Literal x) lexed.at (lexed.at + length x)) cut.says) refl (λ fits. (cut.within, fits)) refl

  pub fills_doc : (new : Filling) (inner : Bool) (doc_body : Bor (List ℕ)) (begin : ℕ)
      → lexed.piece.kind ≡ kinds.Doc inner doc_body → begin ≡ length (encode_utf8_all to.before.passed)
      → Puts old new (doc_entries inner (entries.DocText (lexed.piece.bytes - 3 - length doc_body.now) (begin + 3)
      (begin + 3 + length doc_body.now) lexed.at) lexed.at (lexed.at + lexed.piece.chars))
      → Fills new (past to.before front to.before.opened
      (doc_onto lexed.at (lexed.at + length front) inner (chars doc_body.now) []))
  fills_doc new inner doc_body begin is from step =
      let found = to.is.found in
      let made = doc_made inner doc_body is in
      let end : ℕ = lexed.at + lexed.piece.chars in
      let closing : ℕ = lexed.piece.bytes - 3 - length doc_body.now in
      let hi : ℕ = begin + 3 + length doc_body.now in
      let cut : IsCutAs text (chars doc_body.now) (begin + 3) hi =
      subst (λ n. IsCutAs text (chars doc_body.now) (begin + 3) (begin + 3 + n)) made.1
      (doc_cut text to.before.passed front found.rest (chars doc_body.now) begin to.takes.utf8
      (begins ∙ ap (λ t. to.before.passed ++ t) found.whole) from made.0) in
      let far : lexed.at + (3 + length (chars doc_body.now) + closing) ≡ end = omega (
        arith,
        made.0.all_bytes,
        made.0.characters,
        made.1,
        found.bytes,
        found.chars,
      ) in
      let entry : Entry = entries.DocText closing (begin + 3) hi lexed.at in
      let event : event_of text entry ≡ One (Literal (string_text (chars doc_body.now))) lexed.at end
      = ap (λ x. One (Literal (string_text x)) lexed.at (lexed.at + (3 + length x + closing))) cut.says
      ∙ ap (λ n. One (Literal (string_text (chars doc_body.now))) lexed.at n) far in
      subst (λ es. Fills new (past to.before front to.before.opened es))
      (doc_trees-events lexed.at end inner (chars doc_body.now) []
      ∙ ap (λ n. doc_onto lexed.at (lexed.at + n) inner (chars doc_body.now) []) found.chars)
      (fills_trees old new to.before front (doc_entries inner entry lexed.at end)
      (doc_trees lexed.at end inner (chars doc_body.now)) to.takes step
      (holds_doc inner text (chars doc_body.now) entry lexed.at end event refl
      (cut.within, subst (λ e. end_of e < 2 ^ 32) (sym event) to.is.room)))

-- ---- the whole text

pub fills_none : (filling : Filling) (base : ℕ) → filling.entries.items ≡ [] → IsUtf8 filling.text.now
    → length filling.text.now < 2 ^ 32 → Fills filling (nothing base (chars filling.text.now))
fills_none filling base none utf8 short =
    let text = filling.text.now in
    subst (λ all. HasEntries text all (nothing base (chars text))) (sym none) (record {
      source = refl;
      utf8 = utf8;
      bytes = short;
      entries = λ few. holds_own text [] nil (holds-nil text);
      events = refl;
    })

module _ (base : ℕ) (source : List ℕ) (filling : Filling) (h : ReadsAll Fills base source filling) where
  -- the entries are those of the stream that the source parses to
  pub filled_parses : ParsesTo base source (trees_of filling.text.now filling.entries.items)
  filled_parses =
      subst (ParsesTo base source) (sym (ap trees_of_events h.takes.events ∙ unflattened_flattening h.stream)) h.parses

  filled_length : length filling.entries.items ≡ length (expansion base h.parses.pieces)
  filled_length = sym (events_of-length filling.text.now filling.entries.items)
      ∙ ap length (h.takes.events ∙ h.parses.expands)

  pub filled_many : 2 ^ 32 ≤ length filling.entries.items → HasManyTokens base source
  filled_many many =
      record { pieces = h.parses.pieces; rest = []; covers = h.parses.covers; many = omega (arith, filled_length) }

  pub filled_few : length filling.entries.items < 2 ^ 32
      → length (flattening (trees_of filling.text.now filling.entries.items)) < 2 ^ 32
  filled_few few =
      omega (arith, held_length filling.text.now filling.entries.items _ (h.takes.entries few))
