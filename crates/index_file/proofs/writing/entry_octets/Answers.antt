use Rattle.index_file.proofs.writing.entry_octets.Goals as goal

pub returns : goal.returns
returns c = rw (c.put_octets.ensures, c.put_u64-2.ensures, c.put_u64.ensures, c.session_octets-session.ensures)
