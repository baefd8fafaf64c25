-- What the cursors of a reader have left.
use Rattle.unpack.specs.Rests.{Rest}
use Rattle.unpack.specs.declared.streams.Streams.{Streams}

abbrev pub left : Streams → Rest
left s =
    record {
      contours = s.contours.rest.now;
      points = s.points.rest.now;
      flags = s.flags.rest.now;
      glyphs = s.glyphs.rest.now;
      composites = s.composites.rest.now;
      boxes = s.boxes.rest.now;
      instructions = s.instructions.rest.now;
    }
