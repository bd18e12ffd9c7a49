-- What `relayout` guarantees about the text that it returns.
use Rattle.std.specs.Prelude.{ℕ, ◌≡◌, false, List, []}
use Rattle.lexical.specs.Cover.{IsCover}
use Rattle.lexical.specs.Piece.{Piece}
use Rattle.relayout.specs.Laws.{KeepsTokens}
use Rattle.relayout.specs.Written.{solid_pieces, relayout_text}
use Rattle.relayout.specs.declared.errors.RelayoutError.{RelayoutError}
use Rattle.relayout.specs.declared.errors.RelayoutError.TheVariants.{NoPiece, Memory}
use Rattle.relayout.specs.declared.white.White.{White}

-- no pieces cover the source
abbrev pub HasNoCover : List ℕ → Type 0
HasNoCover source = (all : List Piece) → IsCover all source → ⊥

-- the text is the source with these choices; the same pieces cover it except for white characters, and it gives the
-- same tokens up to spans
pub record IsRelaid (choices : List White) (source text : List ℕ) : Type 0 where
  pub pieces : List Piece
  pub covers : IsCover pieces source
  pub is : text ≡ relayout_text choices false [] pieces
  pub pieces_now : List Piece
  pub covers_now : IsCover pieces_now text
  pub same : solid_pieces pieces_now ≡ solid_pieces pieces
  pub tokens : KeepsTokens source text

-- if the error is `NoPiece`, `holds` is true
abbrev pub IfNoPiece : Type 0 → RelayoutError → Type 0
IfNoPiece holds NoPiece = holds
IfNoPiece holds (Memory refused) = Unit {0}
