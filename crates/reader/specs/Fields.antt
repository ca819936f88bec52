-- The code's fields as the readers'.
use Rattle.format.specs.Readers.{Fields}
use Rattle.reader.specs.declared.fields.HeadFields.{HeadFields}

abbrev pub fields_in : HeadFields → Fields
fields_in t =
    record {
      offset = t.offset;
      header_size_of = t.header_size;
      width = t.width;
      height = t.height;
      depth = t.depth;
      compression = t.compression;
      colours = t.colours;
    }
