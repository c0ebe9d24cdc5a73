-- What a search sees by its side.
use Rattle.matching.specs.Occurrence.{View}
use Rattle.matching.specs.Steps.Turning.{viewed}
use Rattle.matching.specs.declared.side.Side.{Side}

-- the text, with the side's pattern in hand, from the side's end
abbrev pub sight : Side → View
sight s = viewed s.mirrored s.pattern.now s.text.now
