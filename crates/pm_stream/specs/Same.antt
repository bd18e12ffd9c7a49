-- Streams that differ in their spans only.
use Rattle.std.specs.Prelude.{◌≡◌}
use Rattle.pm_stream.specs.Forest.{Forest, nil, leaf, group}

-- the stream with each span 0..0, at any depth
abbrev pub without_spans : Forest → Forest
without_spans nil = nil
without_spans (leaf token lo hi rest) = leaf token 0 0 (without_spans rest)
without_spans (group d lo hi inside rest) = group d 0 0 (without_spans inside) (without_spans rest)

-- `same`: the streams are equal but for their spans
abbrev pub Same : Forest → Forest → Type 0
Same s t = without_spans s ≡ without_spans t
