use Rattle.std.proofs.Common.{refl}
use Rattle.std.specs.Char.{encode_utf8}
use Rattle.std.specs.Str.{is_utf8, chars}
use Rattle.task_text.proofs.laws.worked_exports.Goals as goal

pub returns-clause-xstore : goal.returns-clause-xstore
unfolding is_utf8 chars encode_utf8
returns-clause-xstore c = record {
  whole = refl;
  task_class = record { key_class = refl; file_class = refl; name_class = refl; onto_class = refl; apart = refl };
}

pub returns-clause-xget : goal.returns-clause-xget
unfolding is_utf8 chars encode_utf8
returns-clause-xget c = record {
  whole = refl;
  task_class = record { key_class = refl; file_class = refl; name_class = refl; onto_class = refl; apart = refl };
}

pub returns-clause-xcheck : goal.returns-clause-xcheck
unfolding is_utf8 chars encode_utf8
returns-clause-xcheck c = record {
  whole = refl;
  task_class = record { key_class = refl; file_class = refl; name_class = refl; onto_class = refl; apart = refl };
}

pub returns-clause-xrename : goal.returns-clause-xrename
unfolding is_utf8 chars encode_utf8
returns-clause-xrename c = record {
  whole = refl;
  task_class = record { key_class = refl; file_class = refl; name_class = refl; onto_class = refl; apart = refl };
}

pub returns-clause-store : goal.returns-clause-store
unfolding is_utf8 chars encode_utf8
returns-clause-store c = record {
  whole = refl;
  task_class = record { key_class = refl; file_class = refl; name_class = refl; onto_class = refl; apart = refl };
}
