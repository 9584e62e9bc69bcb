use Rattle.index_file.proofs.writing.session_octets.Goals as goal

pub returns : goal.returns
returns c = rw (c.put_u8-2.ensures, c.put_u8.ensures, c.put_octets-3.ensures, c.put_octets-2.ensures, c.put_octets.ensures, c.put_u64-2.ensures, c.put_u64.ensures, c.peer_octets-peer.ensures, c.settings_octets-settings.ensures, c.conditions_octets-conditions.ensures)
