use Rattle.std.proofs.lemmas.Result.{err_from_is_err_and}
use Rattle.task_text.specs.Works.{names_file, has_name, has_onto}
use Rattle.task_text.specs.TaskLines.{is_file, is_name}
use Rattle.task_text.proofs.Spelled.{reading_of, spells_read, text_read}
use Rattle.task_text.proofs.Faults.{name_missing, onto_missing}
use Rattle.task_text.proofs.line.read_parts.Goals as goal

pub returns-in_err-name : goal.returns-in_err-name
returns-in_err-name c =
    let parts = c.parts_of-parts in
    let work = c.in-Some.work in
    let file = text_read c.names_file.result (names_file work) is_file parts.result.file.now c.in_ok-file.file.now c.names_file.ensures c.in_ok-file.ensures.ok in
    let missing = name_missing c.args.line.now c.split_at_space.result.0.now c.split_at_space.result.1.now
    parts.result.key.now parts.result.file.now parts.result.name.now parts.result.onto.now c.in_ok-file.file.now work
    (record {
      word_is = c.split_at_space.ensures.before;
      rest_is = c.split_at_space.ensures.behind;
      work_is = c.in-Some.ensures;
      key_is = parts.ensures.key;
      file_is = parts.ensures.file;
      name_is = parts.ensures.name;
      onto_is = parts.ensures.onto;
    }) c.in_ok-key.ensures.ok.1 file c.has_name.result c.has_name.ensures c.in_err-name.ensures.err.1 in
    let p = err_from_is_err_and c.from_residual-in_err-name.result c.from_residual-in_err-name.ensures.1 in
    rw (p.1, p.2, c.in_err-name.ensures.err.0) missing

pub returns-in_err-onto : goal.returns-in_err-onto
returns-in_err-onto c =
    let parts = c.parts_of-parts in
    let work = c.in-Some.work in
    let file = text_read c.names_file.result (names_file work) is_file parts.result.file.now c.in_ok-file.file.now c.names_file.ensures c.in_ok-file.ensures.ok in
    let missing = onto_missing c.args.line.now c.split_at_space.result.0.now c.split_at_space.result.1.now
    parts.result.key.now parts.result.file.now parts.result.name.now parts.result.onto.now c.in_ok-file.file.now work
    (record {
      word_is = c.split_at_space.ensures.before;
      rest_is = c.split_at_space.ensures.behind;
      work_is = c.in-Some.ensures;
      key_is = parts.ensures.key;
      file_is = parts.ensures.file;
      name_is = parts.ensures.name;
      onto_is = parts.ensures.onto;
    }) c.in_ok-key.ensures.ok.1 file c.has_onto.result c.has_onto.ensures c.in_err-onto.ensures.err.1 in
    let p = err_from_is_err_and c.from_residual-in_err-onto.result c.from_residual-in_err-onto.ensures.1 in
    rw (p.1, p.2, c.in_err-onto.ensures.err.0) missing

pub returns : goal.returns
returns c =
    let parts = c.parts_of-parts in
    let work = c.in-Some.work in
    reading_of c.args.line.now _ c.make_task.result
    (spells_read c.args.line.now c.split_at_space.result.0.now c.split_at_space.result.1.now
    parts.result.key.now parts.result.file.now parts.result.name.now parts.result.onto.now
    _ c.in_ok-file.file.now c.in_ok-name.name.now c.in_ok-onto.onto.now work
    (record {
      word_is = c.split_at_space.ensures.before;
      rest_is = c.split_at_space.ensures.behind;
      work_is = c.in-Some.ensures;
      key_is = parts.ensures.key;
      file_is = parts.ensures.file;
      name_is = parts.ensures.name;
      onto_is = parts.ensures.onto;
    }) c.in_ok-key.ensures.ok.0 c.in_ok-key.ensures.ok.1
    (text_read c.names_file.result (names_file work) is_file parts.result.file.now c.in_ok-file.file.now c.names_file.ensures c.in_ok-file.ensures.ok)
    (text_read c.has_name.result (has_name work) is_name parts.result.name.now c.in_ok-name.name.now c.has_name.ensures c.in_ok-name.ensures.ok)
    (text_read c.has_onto.result (has_onto work) is_name parts.result.onto.now c.in_ok-onto.onto.now c.has_onto.ensures c.in_ok-onto.ensures.ok))
    c.make_task.ensures
