-- The constant is the names of the lines, so the words at k are the name of line k.
use Rattle.text.specs.Text.{bytes}
use Rattle.header.specs.Lines.{header_lines}
use Rattle.header.proofs.Words.{line_name}
use Rattle.header.proofs.lines.name.Goals as goal

pub slice_bounds-result-count : goal.slice_bounds-result-count
unfolding header_lines bytes
slice_bounds-result-count c =
    (line_name _ c.requires c.words_length-from.ensures c.words_length-to.ensures).0

pub slice_bounds-result-start : goal.slice_bounds-result-start
unfolding header_lines bytes
slice_bounds-result-start c =
    (line_name _ c.requires c.words_length-from.ensures c.words_length-to.ensures).0

pub slice_bounds-result-end : goal.slice_bounds-result-end
unfolding header_lines bytes
slice_bounds-result-end c =
    (line_name _ c.requires c.words_length-from.ensures c.words_length-to.ensures).1

pub returns : goal.returns
unfolding header_lines bytes
returns c = (line_name _ c.requires c.words_length-from.ensures c.words_length-to.ensures).2
